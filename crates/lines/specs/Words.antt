-- The words of the input, in ASCII, and how many fields a line has. Assumes nothing.
use Rattle.std.specs.Prelude.{List, [], ◌∷◌}
use Rattle.text.specs.Fields.{Field}

abbrev pub mac : Field
mac = 109 ∷ 97 ∷ 99 ∷ []

abbrev pub addresses : Field
addresses = 97 ∷ 100 ∷ 100 ∷ 114 ∷ 101 ∷ 115 ∷ 115 ∷ 101 ∷ 115 ∷ []

abbrev pub events : Field
events = 101 ∷ 118 ∷ 101 ∷ 110 ∷ 116 ∷ 115 ∷ []

abbrev pub up : Field
up = 117 ∷ 112 ∷ []

abbrev pub down : Field
down = 100 ∷ 111 ∷ 119 ∷ 110 ∷ []

abbrev pub poll : Field
poll = 112 ∷ 111 ∷ 108 ∷ 108 ∷ []

abbrev pub sweep : Field
sweep = 115 ∷ 119 ∷ 101 ∷ 101 ∷ 112 ∷ []

abbrev pub off : Field
off = 111 ∷ 102 ∷ 102 ∷ []

abbrev pub ra : Field
ra = 114 ∷ 97 ∷ []

abbrev pub start : Field
start = 115 ∷ 116 ∷ 97 ∷ 114 ∷ 116 ∷ []

abbrev pub fill : Field
fill = 102 ∷ 105 ∷ 108 ∷ 108 ∷ []

abbrev pub remove : Field
remove = 114 ∷ 101 ∷ 109 ∷ 111 ∷ 118 ∷ 101 ∷ []

-- no field more
abbrev pub no_field : {A : Type 0} → A → A → List Field → A
no_field bad good [] = good
no_field bad good (f ∷ fs) = bad

-- one field more, and no other
abbrev pub last_field : {A : Type 0} → A → (Field → A) → List Field → A
last_field bad read [] = bad
last_field bad read (f ∷ []) = read f
last_field bad read (f ∷ g ∷ fs) = bad
