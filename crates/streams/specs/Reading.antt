-- The lines of the input. Document 01: "A bad line N (from 1; also one .. above 4,096 bytes ..)"; the last line may do without its newline, and
-- no newline is among the 4,096 bytes (docs/DECISIONS.md, 3). No contract can say which bytes a read brings: what is said here is what becomes
-- of the bytes, whatever they are. Assumes nothing.
use Rattle.std.specs.Prelude.{◌≡◌, ℕ, ◌+◌, ◌-◌, ◌<◌, ◌≤◌, Bool, true, false, cond, List, ◌++◌, length, take, drop, ◌==◌, nat_lt, Option, Some, None, Result, Ok, Err, IfOk}
use Rattle.std.specs.declared.io.Error.{Error as IoError}
use Rattle.text.specs.Fields.{index_of}
use Rattle.streams.specs.declared.reader.Reader.{Reader}
use Rattle.streams.specs.declared.reader.ReadFailed.{ReadFailed}
use Rattle.streams.specs.declared.reader.Line.{Line}
use Rattle.streams.specs.declared.reader.Line.TheVariants.{At, End, Long}

-- ---- what is in hand

abbrev pub reader : ℕ → ℕ → Reader
reader start end = record { start = start; end = end }

-- how many bytes are read and not yet used
abbrev pub count : Reader → ℕ
count r = r.end - r.start

-- and which
abbrev pub in_hand : List ℕ → Reader → List ℕ
in_hand buf r = take (count r) (drop r.start buf)

-- they lie within the buffer, which has room for more than a line
abbrev pub Fits : List ℕ → Reader → Type 0
Fits buf r = (r.start ≤ r.end) × (r.end ≤ length buf) × (4096 < length buf)

-- ---- the next line of what is in hand

-- Len bytes stand before the first newline in hand, or in all. A line with or without its newline is a line; of a part of one more is to come,
-- and it is none.
abbrev pub take_by : Bool → Reader → ℕ → Option Line
take_by ended r len =
    cond (nat_lt 4096 len) (Some (Long r))
    (cond (nat_lt (r.start + len) r.end) (Some (At r.start (r.start + len) (reader (r.start + len + 1) r.end)))
    (cond ended (cond (len == 0) (Some End) (Some (At r.start r.end (reader r.end r.end))))
    None))

unfoldable pub take_line : Bool → List ℕ → Reader → Option Line
take_line ended buf r = take_by ended r (index_of 10 (in_hand buf r))

-- ---- a read

-- the bytes from start up to end, moved to the front
abbrev pub moved : List ℕ → ℕ → ℕ → List ℕ
moved s start end = take (end - start) (drop start s) ++ drop (end - start) s

-- what a reader answers a read: that it failed, or how many bytes came, at most as many as there was room for
pub record Within (room : ℕ) (got : Result ℕ IoError) : Type 0 where
  pub moved : IfOk got (λ n. n ≤ room)

abbrev pub read_failed : ReadFailed
read_failed = record {}

-- the place after the bytes that came to place end; none come at the end of the input
abbrev pub more_of : Result ℕ IoError → ℕ → Result (Option ℕ) ReadFailed
more_of (Err e) end = Err read_failed
more_of (Ok k) end = Ok (cond (k == 0) None (Some (end + k)))

-- what stood before end stays; how many bytes came, or that none did, is as the reader answered
pub record Reads (buf : List ℕ) (end : ℕ) (m : Result (Option ℕ) ReadFailed) (buf' : List ℕ) : Type 0 where
  pub same : length buf' ≡ length buf
  pub kept : take end buf' ≡ take end buf
  pub got : Result ℕ IoError
  pub within : Within (length buf - end) got
  pub told : m ≡ more_of got end

-- into what is free once the bytes in hand are moved to the front
abbrev pub Refills : List ℕ → Reader → Result (Option ℕ) ReadFailed → List ℕ → Type 0
Refills buf r m buf' = Reads (moved buf r.start r.end) (count r) m buf'

-- ---- the next line

-- what the reader answers, where it is asked for a line
abbrev pub Answer : Type 0
Answer = Result Line ReadFailed

-- The course of the reads. What is in hand answers, and the buffer is as it is; or it is a part of a line, and a read follows: it brings
-- more, or the end of the input, and what is in hand is asked again; or it fails.
pub data Course : Bool → List ℕ → Reader → Answer → List ℕ → Type 0 where
  answers : {ended : Bool} {buf : List ℕ} {r : Reader} {l : Line} → take_line ended buf r ≡ Some l → Course ended buf r (Ok l) buf
  reads_on : {ended : Bool} {buf : List ℕ} {r : Reader} {a : Answer} {end : ℕ} {buf' buf'' : List ℕ}
      → take_line ended buf r ≡ None → Refills buf r (Ok (Some end)) buf' → Course ended buf' (reader 0 end) a buf'' → Course ended buf r a buf''
  ends : {ended : Bool} {buf : List ℕ} {r : Reader} {a : Answer} {buf' buf'' : List ℕ}
      → take_line ended buf r ≡ None → Refills buf r (Ok None) buf' → Course true buf' (reader 0 (count r)) a buf'' → Course ended buf r a buf''
  fails : {ended : Bool} {buf : List ℕ} {r : Reader} {e : ReadFailed} {buf' : List ℕ}
      → take_line ended buf r ≡ None → Refills buf r (Err e) buf' → Course ended buf r (Err e) buf'

-- a reader that does not fit leaves the buffer as it is
pub record Next (buf : List ℕ) (r : Reader) (a : Answer) (buf' : List ℕ) : Type 0 where
  pub same : length buf' ≡ length buf
  pub line : Fits buf r → Course false buf r a buf'
  pub unfit : (Fits buf r → ⊥) → (a ≡ Err read_failed) × (buf' ≡ buf)
