-- Proved samples: certificates, and the headers that they are under.
use Rattle.std.specs.Prelude.{◌≡◌, ℕ}
use Rattle.namespace_id.specs.declared.digests.Digest.{Digest}
use Rattle.data_header.specs.Headers.{Roots}
use Rattle.axis_roots.specs.declared.message.messages.Message.{Message}
use Rattle.axis_roots.specs.declared.message.proved.Proved.{Proved}
use Rattle.axis_roots.specs.Messages.{root_for}

-- the width that a certificate keeps
abbrev pub kept_width : Proved → ℕ
kept_width proved = proved.k

-- the sample that a certificate keeps
abbrev pub kept_message : Proved → Message
kept_message proved = proved.message

-- the root that a certificate keeps
abbrev pub kept_root : Proved → Digest
kept_root proved = proved.root

-- a certificate is under each header that has its width, and its root of the sample's axis
pub record IsUnder (header : Roots) (proved : Proved) : Type 0 where
  pub width : header.k ≡ kept_width proved
  pub root : root_for header (kept_message proved) ≡ kept_root proved
