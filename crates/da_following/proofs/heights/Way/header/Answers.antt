use Rattle.std.proofs.Common.{◌∷◌, ℕ, List, Vec, Some, refl, ap}
use Rattle.std.specs.Map.{lookup}
use Rattle.std.specs.Option.{option_map}
use Rattle.std.specs.declared.alloc.Global.{Global}
use Rattle.namespace_id.specs.declared.namespaces.Namespace.{Namespace as Name}
use Rattle.blob_feed.specs.Feeds.{headed}
use Rattle.blob_feed.specs.Followers.{is_name}
use Rattle.da_following.proofs.WayLemmas.{none_ahead, way_headed}
use Rattle.da_following.proofs.heights.Way.header.Goals as goal

-- the height before was told, and nothing is kept of the next one
pub returns-clause-way : goal.returns-clause-way
returns-clause-way c = λ all later on.
    way_headed c.args.names.now all c.close.new.self
    (record {
      told = c.close.new.self.told;
      number = c.close.new.self.number;
      height = Some (record { header = c.args.header; texts = c.new.result });
    }) later c.args.header (record { header = c.args.header; texts = c.new.result })
    (c.in_ok-close.ensures.way all (headed c.args.header ∷ later) (none_ahead c.args.header later) on) c.in_ok-close.ensures.none
    refl refl refl refl
    (λ name. ap (λ (entries : List (Name × Vec ℕ Global)). option_map (λ (text : Vec ℕ Global). text.items)
    (lookup (is_name name) entries)) c.new.ensures.empty)
