-- Laws of the buffer. Assumes nothing.
use Rattle.std.proofs.Common.{◌≡◌, ℕ, suc, ◌+◌, ◌-◌, ◌<◌, ◌≤◌, Bool, true, false, cond, eqb, ltb, List, [], ◌∷◌, length, get_or, take, drop, sym, refl, ◌∙◌, arith, length-append, length-drop, length-take-le, ltb-false, ltb-true, le-ltb, lt-ltb, ne_eqb}
use borrow.Author.Tests.{eqb-false}
use Rattle.std.specs.declared.io.Error.{Error as IoError}
use Rattle.std.specs.Prelude.{Option, Some, None, Result, Ok, Err}
use Rattle.streams.specs.Reading.{reader, count, in_hand, Fits, take_by, take_line, moved, more_of, Within, Reads, Refills, Answer, Course, answers, reads_on, ends, fails, Next}
use Rattle.streams.specs.declared.reader.Line.TheVariants.{At, End, Long}
use Rattle.streams.specs.declared.reader.Line.{Line}
use Rattle.streams.specs.declared.reader.ReadFailed.{ReadFailed}
use Rattle.streams.specs.declared.reader.Reader.{Reader}
use Rattle.std.specs.Option.{unwrap_or}
use Rattle.text.proofs.FieldLaws.{before, found}
use Rattle.text.specs.Fields.{index_of, Found}

-- ---- moving to the front

pub moved_length : (buf : List ℕ) (r : Reader) → Fits buf r → length (moved buf r.start r.end) ≡ length buf
moved_length buf r f =
    let n = count r in
    let a = length-take-le n (drop r.start buf) (rw length-drop (omega arith)) in
    let b = length-drop n buf in
    length-append (take n (drop r.start buf)) (drop n buf) ∙ omega arith

-- ---- the next line of what is in hand

pub index_by : (s : List ℕ) (r : Option ℕ) → Found s 10 r → unwrap_or r (length s) ≡ index_of 10 s
index_by s None f = sym (found s 10 None f)
index_by s (Some k) f = (found s 10 (Some k) f).0

high_by : (n m : ℕ) (t : Bool) → n ≤ m → cond t 0 (suc n) ≤ suc m
high_by n m true h = omega arith
high_by n m false h = omega arith

pub index_high : (b : ℕ) (s : List ℕ) → index_of b s ≤ length s
index_high b [] = omega arith
index_high b (x ∷ s) = high_by (index_of b s) (length s) (eqb x b) (index_high b s)

module _ (ended : Bool) (buf : List ℕ) (r : Reader) (len : ℕ) (is : len ≡ index_of 10 (in_hand buf r)) where
  pub too_long : 4096 < len → Some (Long r) ≡ take_line ended buf r
  unfolding take_line
  too_long h = rw (← is, lt-ltb _ _ h) refl

  pub whole : len ≤ 4096 → r.start + len < r.end → Some (At r.start (r.start + len) (reader (r.start + len + 1) r.end)) ≡ take_line ended buf r
  unfolding take_line
  whole h k = rw (← is, le-ltb _ _ h, lt-ltb _ _ k) refl

  pub part : len ≤ 4096 → r.end ≤ r.start + len → ended ≡ false → None ≡ take_line ended buf r
  unfolding take_line
  part h k e = rw (← is, le-ltb _ _ h, le-ltb _ _ k, e) refl

  pub nothing : r.end ≤ r.start + len → ended ≡ true → len ≡ 0 → Some End ≡ take_line ended buf r
  unfolding take_line
  nothing k e z = rw (← is, le-ltb _ _ k, e, z) refl

  pub last : len ≤ 4096 → r.end ≤ r.start + len → ended ≡ true → (len ≡ 0 → ⊥) → Some (At r.start r.end (reader r.end r.end)) ≡ take_line ended buf r
  unfolding take_line
  last h k e z = rw (← is, le-ltb _ _ h, le-ltb _ _ k, e, ne_eqb len 0 z) refl

no_part : (b : Bool) (l : Line) → cond b (Some End) (Some l) ≡ None → ⊥
no_part true l p = let z : ◌≡◌ {A = ℕ} 0 1 = cc in omega arith
no_part false l p = let z : ◌≡◌ {A = ℕ} 0 1 = cc in omega arith

part_by : (ended : Bool) (r : Reader) (len : ℕ) (t u v : Bool) → ltb 4096 len ≡ t → ltb (r.start + len) r.end ≡ u → ended ≡ v
    → take_by ended r len ≡ None → (len ≤ 4096) × (r.end ≤ r.start + len) × (ended ≡ false)
part_by ended r len true u v a b e p =
    let w : ◌≡◌ {A = Option Line} (Some (Long r)) None = rw a at p in absurd (let z : ◌≡◌ {A = ℕ} 0 1 = cc in omega arith)
part_by ended r len false true v a b e p =
    let w : ◌≡◌ {A = Option Line} (Some (At r.start (r.start + len) (reader (r.start + len + 1) r.end))) None = rw (a, b) at p in
    absurd (let z : ◌≡◌ {A = ℕ} 0 1 = cc in omega arith)
part_by ended r len false false true a b e p =
    let w : ◌≡◌ {A = Option Line} (cond (eqb len 0) (Some End) (Some (At r.start r.end (reader r.end r.end)))) None = rw (a, b, e) at p in
    absurd (no_part (eqb len 0) _ w)
part_by ended r len false false false a b e p = (ltb-false _ _ a, ltb-false _ _ b, e)

-- what is none by the match
pub none_by : (o : Option Line) → ((l : Line) → o ≡ Some l → ⊥) → o ≡ None
none_by None h = refl
none_by (Some l) h = absurd (h l refl)

-- a part of a line leaves room for more of it, and the input has not ended
pub part_short : (ended : Bool) (buf : List ℕ) (r : Reader) → take_line ended buf r ≡ None → (count r ≤ 4096) × (ended ≡ false)
unfolding take_line
part_short ended buf r p =
    let n = index_of 10 (in_hand buf r) in
    let w = part_by ended r n (ltb 4096 n) (ltb (r.start + n) r.end) ended refl refl refl p in
    (omega (arith, w.0, w.1), w.2)

-- ---- what a read answered

more_by : (k end n : ℕ) (b : Bool) → eqb k 0 ≡ b → ◌≡◌ {A = Result (Option ℕ) ReadFailed} (Ok (Some n)) (Ok (cond b None (Some (end + k))))
    → (end < n) × (n ≡ end + k)
more_by k end n true e p = absurd (let z : ◌≡◌ {A = ℕ} 0 1 = cc in omega arith)
more_by k end n false e p = let z = eqb-false k 0 e in let q : n ≡ end + k = cc in (omega arith, q)

read_by : (z : Result ℕ IoError) (len end n : ℕ) → end ≤ len → Within (len - end) z → Ok (Some n) ≡ more_of z end → (end < n) × (n ≤ len)
read_by (Ok k) len end n l m p = let w = more_by k end n (eqb k 0) refl p in (w.0, omega (arith, w.1, m.moved))
read_by (Err e) len end n l m p = absurd (let z : ◌≡◌ {A = ℕ} 0 1 = cc in omega arith)

-- one byte at least came, and no more than there was room for
pub came : {buf : List ℕ} {end n : ℕ} {buf' : List ℕ} → Reads buf end (Ok (Some n)) buf' → end ≤ length buf → (end < n) × (n ≤ length buf)
came {buf} {end} {n} p l = read_by p.got (length buf) end n l p.within p.told

-- ---- the course of the reads

module _ (ended : Bool) (buf : List ℕ) (r : Reader) (p : take_line ended buf r ≡ None) (f : Fits buf r) where
  low : count r ≤ length (moved buf r.start r.end)
  low = let s = part_short ended buf r p in let m = moved_length buf r f in omega (arith, f.2, s.0)

  fits_read : {n : ℕ} {buf' : List ℕ} → Refills buf r (Ok (Some n)) buf' → (count r < n) × Fits buf' (reader 0 n)
  fits_read {n} w =
      let a = came w low in
      let m = moved_length buf r f in
      let s = w.same in
      let room = f.2 in
      (a.0, (omega arith, omega (arith, a.1), omega arith))

  fits_end : {m : Result (Option ℕ) ReadFailed} {buf' : List ℕ} → Refills buf r m buf' → Fits buf' (reader 0 (count r))
  fits_end w =
      let n = low in
      let m = moved_length buf r f in
      let s = w.same in
      let room = f.2 in
      (omega arith, omega arith, omega arith)

pub record Going (buf₀ : List ℕ) (r : Reader) (buf : List ℕ) (at : Reader) (ended : Bool) : Type 0 where
  pub first : Fits buf₀ r
  pub same : length buf ≡ length buf₀
  pub fits : Fits buf at
  pub on : (a : Answer) (buf' : List ℕ) → Course ended buf at a buf' → Course false buf₀ r a buf'

pub begins : (buf : List ℕ) (r : Reader) → Fits buf r → Going buf r buf r false
begins buf r f = record { first = f; same = refl; fits = f; on = λ l b c. c }

-- how many turns may follow
abbrev pub turns : List ℕ → Reader → Bool → ℕ
turns buf at ended = cond ended 0 (suc (length buf - count at))

module _ {buf₀ : List ℕ} {r : Reader} {buf : List ℕ} {at : Reader} {ended : Bool} (g : Going buf₀ r buf at ended) where
  pub next : {l : Line} → Some l ≡ take_line ended buf at → Next buf₀ r (Ok l) buf
  next {l} e = record { same = g.same; line = λ _. g.on (Ok l) buf (answers (sym e)); unfit = λ n. absurd (n g.first) }

  module _ (p : take_line ended buf at ≡ None) where
    refilled_length : {m : Result (Option ℕ) ReadFailed} {buf' : List ℕ} → Refills buf at m buf' → length buf' ≡ length buf₀
    refilled_length f = f.same ∙ moved_length buf at g.fits ∙ g.same

    pub on_read : {n : ℕ} {buf' : List ℕ} → Refills buf at (Ok (Some n)) buf' → Going buf₀ r buf' (reader 0 n) ended
    on_read f = record {
      first = g.first;
      same = refilled_length f;
      fits = (fits_read ended buf at p g.fits f).1;
      on = λ l b c. g.on l b (reads_on p f c);
    }

    pub on_end : {buf' : List ℕ} → Refills buf at (Ok None) buf' → Going buf₀ r buf' (reader 0 (count at)) true
    on_end f = record {
      first = g.first;
      same = refilled_length f;
      fits = fits_end ended buf at p g.fits f;
      on = λ l b c. g.on l b (ends p f c);
    }

    pub failed : {e : ReadFailed} {buf' : List ℕ} → Refills buf at (Err e) buf' → Next buf₀ r (Err e) buf'
    failed {e} {buf'} f = record { same = refilled_length f; line = λ _. g.on (Err e) buf' (fails p f); unfit = λ n. absurd (n g.first) }

    pub fewer_read : {n : ℕ} {buf' : List ℕ} → Refills buf at (Ok (Some n)) buf' → turns buf' (reader 0 n) ended < turns buf at ended
    fewer_read {n} f =
        let w = fits_read ended buf at p g.fits f in
        let s = refilled_length f in
        let q = part_short ended buf at p in
        rw q.1 (omega (arith, w.0, w.1.1, g.same))

    pub fewer_end : 0 < turns buf at ended
    fewer_end = let q = part_short ended buf at p in rw q.1 (omega arith)

-- ---- a line that was handed out

-- it lies in the buffer, has at most 4,096 bytes, and what is left fits
pub record Held (buf : List ℕ) (from to : ℕ) (left : Reader) : Type 0 where
  pub low : from ≤ to
  pub short : to ≤ from + 4096
  pub high : to ≤ length buf
  pub fits : Fits buf left

module _ (buf : List ℕ) (r : Reader) (f : Fits buf r) (from to : ℕ) (left : Reader) where
  held_by : (ended : Bool) (len : ℕ) (l : Line) (t u v z : Bool) → ltb 4096 len ≡ t → ltb (r.start + len) r.end ≡ u → ended ≡ v → eqb len 0 ≡ z
      → take_by ended r len ≡ Some l → l ≡ At from to left → Held buf from to left
  held_by ended len l true u v z a b e d w q =
      let x : Some (Long r) ≡ Some l = rw a at w in absurd (let y : ◌≡◌ {A = ℕ} 0 1 = cc in omega arith)
  held_by ended len l false true v z a b e d w q =
      let x : Some (At r.start (r.start + len) (reader (r.start + len + 1) r.end)) ≡ Some l = rw (a, b) at w in
      let i : from ≡ r.start = cc in
      let j : to ≡ r.start + len = cc in
      let k : left ≡ reader (r.start + len + 1) r.end = cc in
      let h = ltb-false 4096 len a in
      let m = ltb-true (r.start + len) r.end b in
      record { low = omega arith; short = omega arith; high = omega (arith, f.1); fits = rw k (omega arith, f.1, f.2) }
  held_by ended len l false false true true a b e d w q =
      let x : Some End ≡ Some l = rw (a, b, e, d) at w in absurd (let y : ◌≡◌ {A = ℕ} 0 1 = cc in omega arith)
  held_by ended len l false false true false a b e d w q =
      let x : Some (At r.start r.end (reader r.end r.end)) ≡ Some l = rw (a, b, e, d) at w in
      let i : from ≡ r.start = cc in
      let j : to ≡ r.end = cc in
      let k : left ≡ reader r.end r.end = cc in
      let h = ltb-false 4096 len a in
      let m = ltb-false (r.start + len) r.end b in
      record { low = omega (arith, f.0); short = omega arith; high = omega (arith, f.1); fits = rw k (omega arith, f.1, f.2) }
  held_by ended len l false false false z a b e d w q =
      let x : None ≡ Some l = rw (a, b, e) at w in absurd (let y : ◌≡◌ {A = ℕ} 0 1 = cc in omega arith)

  held_first : (ended : Bool) (l : Line) → take_line ended buf r ≡ Some l → l ≡ At from to left → Held buf from to left
  unfolding take_line
  held_first ended l w q =
      let n = index_of 10 (in_hand buf r) in
      held_by ended n l (ltb 4096 n) (ltb (r.start + n) r.end) ended (eqb n 0) refl refl refl refl w q

pub held : {ended : Bool} {buf : List ℕ} {r : Reader} {a : Answer} {buf' : List ℕ} (from to : ℕ) (left : Reader) → Course ended buf r a buf'
    → Fits buf r → a ≡ Ok (At from to left) → Held buf' from to left
held {ended} {buf} {r} from to left (answers {l = l} e) f q = held_first buf r f from to left ended l e (cc)
held {ended} {buf} {r} from to left (reads_on p w c) f q = held from to left c (fits_read ended buf r p f w).1 q
held {ended} {buf} {r} from to left (ends p w c) f q = held from to left c (fits_end ended buf r p f w) q
held from to left (fails p w) f q = absurd (let y : ◌≡◌ {A = ℕ} 0 1 = cc in omega arith)

-- ---- a line that is too long

-- what is in hand fits, and is more than 4,096 bytes: the line's beginning, since none of the first 4,097 is a newline
pub record HeldLong (buf : List ℕ) (left : Reader) : Type 0 where
  pub fits : Fits buf left
  pub long : 4096 < count left
  pub unbroken : (k : ℕ) → k ≤ 4096 → get_or (in_hand buf left) k 0 ≡ 10 → ⊥

module _ (buf : List ℕ) (r : Reader) (f : Fits buf r) (left : Reader) where
  long_by : (ended : Bool) (len : ℕ) (l : Line) (t u v z : Bool) → ltb 4096 len ≡ t → ltb (r.start + len) r.end ≡ u → ended ≡ v → eqb len 0 ≡ z
      → take_by ended r len ≡ Some l → l ≡ Long left → (left ≡ r) × (4096 < len)
  long_by ended len l true u v z a b e d w q = let x : Some (Long r) ≡ Some l = rw a at w in (cc, ltb-true 4096 len a)
  long_by ended len l false true v z a b e d w q =
      let x : Some (At r.start (r.start + len) (reader (r.start + len + 1) r.end)) ≡ Some l = rw (a, b) at w in
      absurd (let y : ◌≡◌ {A = ℕ} 0 1 = cc in omega arith)
  long_by ended len l false false true true a b e d w q =
      let x : Some End ≡ Some l = rw (a, b, e, d) at w in absurd (let y : ◌≡◌ {A = ℕ} 0 1 = cc in omega arith)
  long_by ended len l false false true false a b e d w q =
      let x : Some (At r.start r.end (reader r.end r.end)) ≡ Some l = rw (a, b, e, d) at w in
      absurd (let y : ◌≡◌ {A = ℕ} 0 1 = cc in omega arith)
  long_by ended len l false false false z a b e d w q =
      let x : None ≡ Some l = rw (a, b, e) at w in absurd (let y : ◌≡◌ {A = ℕ} 0 1 = cc in omega arith)

  long_first : (ended : Bool) (l : Line) → take_line ended buf r ≡ Some l → l ≡ Long left → HeldLong buf left
  unfolding take_line
  long_first ended l w q =
      let n = index_of 10 (in_hand buf r) in
      let p = long_by ended n l (ltb 4096 n) (ltb (r.start + n) r.end) ended (eqb n 0) refl refl refl refl w q in
      let h = index_high 10 (in_hand buf r) in
      let c = length-take-le (count r) (drop r.start buf) (rw length-drop (omega (arith, f.1))) in
      rw p.0 (record { fits = f; long = omega (arith, p.1); unbroken = λ k i. before 10 (in_hand buf r) k (omega (arith, p.1)) })

pub held_long : {ended : Bool} {buf : List ℕ} {r : Reader} {a : Answer} {buf' : List ℕ} (left : Reader) → Course ended buf r a buf'
    → Fits buf r → a ≡ Ok (Long left) → HeldLong buf' left
held_long {ended} {buf} {r} left (answers {l = l} e) f q = long_first buf r f left ended l e (cc)
held_long {ended} {buf} {r} left (reads_on p w c) f q = held_long left c (fits_read ended buf r p f w).1 q
held_long {ended} {buf} {r} left (ends p w c) f q = held_long left c (fits_end ended buf r p f w) q
held_long left (fails p w) f q = absurd (let y : ◌≡◌ {A = ℕ} 0 1 = cc in omega arith)
