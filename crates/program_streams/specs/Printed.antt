-- What printing a list appends.
use Rattle.std.specs.Prelude.{ℕ, List, ◌++◌, codes, decimal}
use Rattle.std.specs.List.{flat_map}

-- a number in decimal, with a space before it
abbrev pub spaced_number : ℕ → List ℕ
spaced_number n = codes " " ++ decimal n

-- the numbers of a list, each with a space before it
abbrev pub spaced_numbers : List ℕ → List ℕ
spaced_numbers l = flat_map spaced_number l
