-- What a text stood for before node() could be typed (document 02, §5), for one theorem alone (proofs/Theorems.antt: read_as_before).
use Rattle.std.specs.Prelude.{ℕ, List}
use Rattle.model.specs.Syntax.{Path}
use Rattle.grammar.specs.Typed.{path_by}
use Rattle.reader.specs.Read.{typed, tag_in}

-- '.', '..' and '//' stood for steps with the star
abbrev pub query_before : List ℕ → List ℕ → List ℕ → Path
query_before text house site = path_by 65535 (typed text) (tag_in house site)
