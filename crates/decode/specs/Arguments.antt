-- Request 101: which pictures the arguments mark. Assumes nothing.
use Rattle.std.specs.Prelude.{ℕ, Option, Some, None, cond, leb}
use Rattle.std.specs.Int.Bits.{bit_or}
use Rattle.text.specs.Pictures.{is_picture_code}
use Rattle.receiver_spec.specs.Marks.{all_marks, no_marks}
use Rattle.receiver_marks.specs.Places.{mark_of}

-- The marks before the first argument, of as many with the program's name: all twenty where none is given
abbrev pub before_arguments : ℕ → ℕ
before_arguments count = cond (leb count 1) all_marks no_marks

-- With the code of one word more: its picture is marked too; one that is no listed code makes all wrong, and so does
-- a wrong one before it
abbrev pub with_code : Option ℕ → ℕ → Option ℕ
with_code None code = None
with_code (Some marks) code = cond (is_picture_code code) (Some (bit_or marks (mark_of code))) None
