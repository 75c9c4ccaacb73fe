-- The text of the lines.
use Rattle.std.specs.Prelude.{ℕ, List, [], ◌∷◌, ◌++◌, codes, decimal}
use Rattle.std.specs.List.{flat_map}
use Rattle.report.specs.declared.line.Line.{Line}
use Rattle.report.specs.declared.line.Line.TheVariants.{Long, Net, Taken, Refused, Place, Take, Put}

-- A word and its numbers in decimal, a space before each.
abbrev pub text : Line → List ℕ
text Long = codes "long"
text (Net n at) = codes "net " ++ (decimal n ++ (codes " " ++ decimal at))
text (Taken n) = codes "taken " ++ decimal n
text (Refused n at) = codes "refused " ++ (decimal n ++ (codes " " ++ decimal at))
text (Place p m) = codes "place " ++ (decimal p ++ (codes " " ++ decimal m))
text (Take t p w) = codes "take " ++ (decimal t ++ (codes " " ++ (decimal p ++ (codes " " ++ decimal w))))
text (Put t p w) = codes "put " ++ (decimal t ++ (codes " " ++ (decimal p ++ (codes " " ++ decimal w))))

-- Each line ends with a line feed.
abbrev pub ended_line : Line → List ℕ
ended_line l = text l ++ (10 ∷ [])

abbrev pub printed : List Line → List ℕ
printed ls = flat_map ended_line ls
