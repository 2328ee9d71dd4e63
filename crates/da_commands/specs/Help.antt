-- help, version: the commands with their words, and the version of the program.
use Rattle.std.specs.Prelude.{ℕ, List, [], ◌++◌, codes}
use Rattle.std.specs.declared.option.Option.{Option}
use Rattle.da_status.specs.declared.status.Status.TheVariants.{Done}
use Rattle.da_status.specs.Outcome.{Relation}
use Rattle.da_files.specs.Frames.{WritesText}

-- the commands with their words, one a line
abbrev pub help_text : List ℕ
help_text =
    codes "da build BLOCK\n"
    ++ codes "da header SQUARE\n"
    ++ codes "da sample SQUARE REQUESTS\n"
    ++ codes "da namespace SQUARE REQUESTS\n"
    ++ codes "da hold SQUARE TALK\n"
    ++ codes "da verify HEADER ANSWER\n"
    ++ codes "da verify HEADER ANSWER COMMITMENT\n"
    ++ codes "da verify HEADER ANSWER REQUEST\n"
    ++ codes "da compact HEADER CLAIM\n"
    ++ codes "da check HEADER MESSAGES\n"
    ++ codes "da repair HEADER MESSAGES\n"
    ++ codes "da gather HEADER TALK\n"
    ++ codes "da light HEADER MESSAGES KEY COUNT\n"
    ++ codes "da watch HEADER KEY COUNT TALK\n"
    ++ codes "da wanted MISSING AXIS\n"
    ++ codes "da cells HEADER KEY COUNT AXIS\n"
    ++ codes "da blobs SHARES\n"
    ++ codes "da transactions SQUARE\n"
    ++ codes "da find SQUARE COMMITMENT\n"
    ++ codes "da commit BLOCK\n"
    ++ codes "da prove SQUARE REQUESTS\n"
    ++ codes "da prove SQUARE START COUNT\n"
    ++ codes "da follow WANTED ANSWERS\n"
    ++ codes "da attend WANTED TALK\n"
    ++ codes "da root HEADER\n"
    ++ codes "da root HEADER ROOT\n"
    ++ codes "da net HEADER MESSAGES SCRIPT\n"
    ++ codes "da show FILE\n"
    ++ codes "da json FILE\n"
    ++ codes "da import dah FILE\n"
    ++ codes "da import header FILE\n"
    ++ codes "da import sample FILE ROW COL\n"
    ++ codes "da import row-data FILE ROW NAMESPACE\n"
    ++ codes "da import namespace-data FILE HEADER NAMESPACE\n"
    ++ codes "da import befp FILE HASH HEIGHT\n"
    ++ codes "da import ods FILE\n"
    ++ codes "da import row FILE ROW\n"
    ++ codes "da import share-proof FILE\n"
    ++ codes "da import sample-id FILE HEIGHT\n"
    ++ codes "da import namespace-id FILE HEIGHT\n"
    ++ codes "da export dah FILE\n"
    ++ codes "da export sample FILE\n"
    ++ codes "da export row-data FILE\n"
    ++ codes "da export namespace-data FILE\n"
    ++ codes "da export befp FILE WIDTH HASH HEIGHT\n"
    ++ codes "da export ods FILE\n"
    ++ codes "da export row FILE\n"
    ++ codes "da export share-proof FILE\n"
    ++ codes "da export sample-id FILE HEIGHT\n"
    ++ codes "da export namespace-id FILE HEIGHT\n"
    ++ codes "da demo NUMBER WIDTH\n"
    ++ codes "da help\n"
    ++ codes "da version\n"

-- the name of the program, and its version
abbrev pub version_text : List ℕ
version_text = codes "da 0.2.0\n"

-- help and version have no file
abbrev pub help_judged : List (Option ℕ)
help_judged = []

-- what help answers: the text of the commands
abbrev pub HelpOf : Relation
HelpOf = WritesText Done help_text

-- what version answers: the line of the version
abbrev pub VersionOf : Relation
VersionOf = WritesText Done version_text
