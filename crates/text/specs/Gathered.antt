-- Text that is gathered in a lent buffer. Assumes nothing.
use Rattle.std.specs.Prelude.{ℕ, ◌≡◌, List, take}
use Rattle.text.specs.Place.{Put}
use Rattle.text.specs.declared.print.Text.{Text}

-- what is gathered: the bytes before the place
abbrev pub gathered : Text → List ℕ
gathered t = take t.at t.buf.now

-- bs was put behind what is gathered
abbrev pub Adds : Text → List ℕ → Text → Type 0
Adds t bs t' = Put t.buf.now t.at bs t'.at t'.buf.now

-- nothing is gathered any more; the buffer holds what it held
abbrev pub IsCleared : Text → Text → Type 0
IsCleared t t' = (t'.at ≡ 0) × (t'.buf.now ≡ t.buf.now)

-- it is gathered in the same lent buffer still
abbrev pub IsSameBuffer : Text → Text → Type 0
IsSameBuffer t t' = t'.buf.ghost_name ≡ t.buf.ghost_name
