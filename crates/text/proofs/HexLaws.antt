-- Laws of hexadecimal digits. Assumes nothing.
use Prim.Native.Nat.{ℕ, zero, suc, ◌+◌, ◌*◌, ◌/◌, ◌%◌, ◌≤◌, ◌<◌}
use borrow.Author.Tests.{eq-eqb, ne_eqb, le-leb, lt-leb, le-ltb, ltb-true, ltb-false}
use lib.Dec.{ltb, leb}
use lib.ListN.{length, take, drop, set, get_or, length-set, length-drop, take-append-drop}
use lib.Seq.{take-suc, take-suc-set, drop-set-lt, drop-drop}
use mathlib.Core.Bool.{Bool, true, false, cond, ◌&&◌}
use mathlib.Core.List.{List, [], ◌∷◌, ◌++◌, append_assoc, append-nil}
use mathlib.Core.Path.{◌≡◌, refl, sym, ap, ap₂, ◌∙◌}
use native.Mathlib.Numerals.{add-one}
use native.Mathlib.Omega.{arith}
use Rattle.text.proofs.PlaceLaws.{chain, put_as}
use Rattle.std.proofs.lemmas.Option.{none-some, same_Some}
use Rattle.std.specs.List.{list_all}
use Rattle.std.specs.Prelude.{Option, Some, None, is_some}
use Rattle.std.specs.Simd.{first_chunks}
use Rattle.text.specs.Hex.{nibble_of, unhexed, byte_read, pair_read, Unhexed, glyph_of, hexed}
use Rattle.text.specs.Place.{Put}
use Rattle.wire.specs.RoundTrips.{Bytes}

no_false : false ≡ true → ⊥
no_false p = let z : ◌≡◌ {A = ℕ} 0 1 = cc in omega arith

-- what agrees from a place on agrees from a later one on
later : (l m : List ℕ) (n d : ℕ) → drop n l ≡ drop n m → drop (n + d) l ≡ drop (n + d) m
later l m n d e = sym (drop-drop d n l) ∙ ap (λ (x : List ℕ). drop d x) e ∙ drop-drop d n m

-- ---- reading

abbrev pub well : List ℕ → Bool
well p = is_some (pair_read p)

-- the pair at n, and what follows it
drop_pair : (d : List ℕ) (k n : ℕ) (s : List ℕ) → n < k → 2 * k ≤ length s
    → drop (2 * n) s ≡ get_or (get_or (first_chunks 2 k s) n d) 0 0 ∷ get_or (get_or (first_chunks 2 k s) n d) 1 0 ∷ drop (2 * (n + 1)) s
drop_pair d zero n s h l = absurd (omega arith)
drop_pair d (suc k) n [] h l = absurd (omega arith)
drop_pair d (suc k) n (a ∷ []) h l = absurd (omega arith)
drop_pair d (suc k) zero (a ∷ b ∷ s) h l = refl
drop_pair d (suc k) (suc n) (a ∷ b ∷ s) h l =
    let e : 2 * suc n ≡ suc (suc (2 * n)) = omega arith in
    let f : 2 * (suc n + 1) ≡ suc (suc (2 * (n + 1))) = omega arith in
    rw (e, f) (drop_pair d k n s (omega arith) (omega arith))

byte_by : (t : Bool) (w v : ℕ) (l : List ℕ) → cond t (Some w) None ≡ Some v → cond t (w ∷ l) [] ≡ v ∷ l
byte_by true w v l e = ap (λ (x : ℕ). x ∷ l) (same_Some w v e)
byte_by false w v l e = absurd (none-some v e)

-- a pair that is a byte, in front
byte_some : (a b v : ℕ) (l : List ℕ) → byte_read a b ≡ Some v → unhexed (a ∷ b ∷ l) ≡ v ∷ unhexed l
byte_some a b v l e = byte_by (leb (nibble_of a) 15 && leb (nibble_of b) 15) (nibble_of a * 16 + nibble_of b) v (unhexed l) e

none_by : (t : Bool) (w : ℕ) (l : List ℕ) → cond t (Some w) None ≡ None → cond t (w ∷ l) [] ≡ []
none_by true w l e = absurd (none-some w (sym e))
none_by false w l e = refl

byte_none : (a b : ℕ) (l : List ℕ) → byte_read a b ≡ None → unhexed (a ∷ b ∷ l) ≡ []
byte_none a b l e = none_by (leb (nibble_of a) 15 && leb (nibble_of b) 15) (nibble_of a * 16 + nibble_of b) (unhexed l) e

-- where each pair is a byte, and where one is none
all_by : (a b k : ℕ) (s : List ℕ) (r : Bool) (o : Option ℕ) → byte_read a b ≡ o → (r ≡ true → length (unhexed s) ≡ k)
    → (is_some o && r) ≡ true → length (unhexed (a ∷ b ∷ s)) ≡ suc k
all_by a b k s r None e i p = absurd (no_false p)
all_by a b k s r (Some v) e i p = rw (byte_some a b v s e) (ap (λ (x : ℕ). suc x) (i p))

pub all_well : (k : ℕ) (s : List ℕ) → 2 * k ≤ length s → length s ≤ 2 * k + 1 → list_all well (first_chunks 2 k s) ≡ true → length (unhexed s) ≡ k
all_well zero [] h l p = refl
all_well zero (a ∷ []) h l p = refl
all_well zero (a ∷ b ∷ s) h l p = absurd (omega arith)
all_well (suc k) [] h l p = absurd (omega arith)
all_well (suc k) (a ∷ []) h l p = absurd (omega arith)
all_well (suc k) (a ∷ b ∷ s) h l p =
    all_by a b k s (list_all well (first_chunks 2 k s)) (byte_read a b) refl (λ q. all_well k s (omega arith) (omega arith) q) p

some_by : (a b k : ℕ) (s : List ℕ) (r : Bool) (o : Option ℕ) → byte_read a b ≡ o → (r ≡ false → length (unhexed s) < k)
    → (is_some o && r) ≡ false → length (unhexed (a ∷ b ∷ s)) < suc k
some_by a b k s r None e i p = rw (byte_none a b s e) (omega arith)
some_by a b k s r (Some v) e i p = let h = i p in rw (byte_some a b v s e) (omega arith)

pub some_ill : (k : ℕ) (s : List ℕ) → 2 * k ≤ length s → list_all well (first_chunks 2 k s) ≡ false → length (unhexed s) < k
some_ill zero s h p = absurd (no_false (sym p))
some_ill (suc k) [] h p = absurd (omega arith)
some_ill (suc k) (a ∷ []) h p = absurd (omega arith)
some_ill (suc k) (a ∷ b ∷ s) h p =
    some_by a b k s (list_all well (first_chunks 2 k s)) (byte_read a b) refl (λ q. some_ill k s (omega arith) q) p

well_by : (x r : Bool) → (x && r) ≡ true → (x ≡ true) × (r ≡ true)
well_by true r p = (refl, p)
well_by false r p = absurd (no_false p)

-- each of those is
pub well_at : (d : List ℕ) (ps : List (List ℕ)) (n : ℕ) → n < length ps → list_all well ps ≡ true → pair_read (get_or ps n d) ≡ None → ⊥
well_at d [] n h p e = omega arith
well_at d (x ∷ ps) zero h p e =
    let q : is_some (pair_read x) ≡ true = (well_by (well x) (list_all well ps) p).0 in
    no_false (rw e at q)
well_at d (x ∷ ps) (suc n) h p e = well_at d ps n (omega arith) (well_by (well x) (list_all well ps) p).1 e

-- n bytes are written
pub record Unhexing (s out₀ out : List ℕ) (n : ℕ) : Type 0 where
  pub same : length out ≡ length out₀
  pub done : take n out ++ unhexed (drop (2 * n) s) ≡ unhexed s
  pub rest : drop n out ≡ drop n out₀

pub unhex_step : (s out₀ out : List ℕ) (n v : ℕ) (d : List ℕ) (ps : List (List ℕ)) → ps ≡ first_chunks 2 (length s / 2) s → Unhexing s out₀ out n
    → n < length s / 2 → n < length out → pair_read (get_or ps n d) ≡ Some v → Unhexing s out₀ (set out n v) (n + 1)
unhex_step s out₀ out n v d ps q inv h k e =
    let f : pair_read (get_or (first_chunks 2 (length s / 2) s) n d) ≡ Some v = rw q at e in
    let u : unhexed (drop (2 * n) s) ≡ v ∷ unhexed (drop (2 * (n + 1)) s) =
    rw (drop_pair d (length s / 2) n s h (omega arith)) (byte_some (get_or (get_or (first_chunks 2 (length s / 2) s) n d) 0 0) (get_or (get_or (first_chunks 2 (length s / 2) s) n d) 1 0) v (drop (2 * (n + 1)) s) f) in
    let t : take (n + 1) (set out n v) ≡ take n out ++ (v ∷ []) = rw add-one (take-suc-set out n v k) in
    record {
      same = length-set out n v ∙ inv.same;
      done = rw (t, append_assoc) (rw u at inv.done);
      rest = drop-set-lt (n + 1) out n v (omega arith) ∙ later out out₀ n 1 inv.rest;
    }

short : (l : List ℕ) → length l ≤ 1 → unhexed l ≡ []
short [] h = refl
short (a ∷ []) h = refl
short (a ∷ b ∷ s) h = absurd (omega arith)

pub none_of : (t : Bool) → cond {A = Option ℕ} t None None ≡ None
none_of true = refl
none_of false = refl

-- what is no pairs of digits alone
pub unhex_bad : (s out : List ℕ) → (2 * length (unhexed s) ≡ length s → ⊥) → Unhexed s out None out
unhex_bad s out n = record { is = rw (ne_eqb (2 * length (unhexed s)) (length s) n) (sym (none_of (ltb (length out) (length s / 2)))); bytes = refl }

pub unhex_ill : (s out : List ℕ) (ps : List (List ℕ)) → ps ≡ first_chunks 2 (length s / 2) s → list_all well ps ≡ false → Unhexed s out None out
unhex_ill s out ps e p =
    let h = some_ill (length s / 2) s (omega arith) (rw e at p) in
    unhex_bad s out (λ q. omega arith)

pub unhex_done : (s out₀ out : List ℕ) (n : ℕ) (ps : List (List ℕ)) → ps ≡ first_chunks 2 (length s / 2) s → list_all well ps ≡ true → length s % 2 ≡ 0
    → n ≡ length s / 2 → n ≤ length out₀ → (i : ℕ) → i ≡ n → Unhexing s out₀ out i → Unhexed s out₀ (Some n) out
unhex_done s out₀ out n ps e p m z h i y₀ inv₀ =
    let inv : Unhexing s out₀ out n = rw y₀ at inv₀ in
    let c : length (unhexed s) ≡ length s / 2 = all_well (length s / 2) s (omega arith) (omega arith) (rw e at p) in
    let w = inv.same in
    let g : unhexed (drop (2 * n) s) ≡ [] = short (drop (2 * n) s) (rw length-drop (omega arith)) in
    let t : take n out ≡ unhexed s = sym (append-nil (take n out)) ∙ rw g at inv.done in
    let y : n ≡ length (unhexed s) = z ∙ sym c in
    record {
      is = rw (le-ltb (length out₀) (length s / 2) (omega arith), eq-eqb (2 * length (unhexed s)) (length s) (omega arith)) (ap (λ (x : ℕ). Some x) y);
      bytes = sym (take-append-drop n out) ∙ ap₂ (λ (a b : List ℕ). a ++ b) t (inv.rest ∙ ap (λ (j : ℕ). drop j out₀) y);
    }

-- ---- writing

hexed_append : (a b : List ℕ) → hexed (a ++ b) ≡ hexed a ++ hexed b
hexed_append [] b = refl
hexed_append (x ∷ a) b = ap (λ (l : List ℕ). glyph_of (x / 16) ∷ glyph_of (x % 16) ∷ l) (hexed_append a b)

-- two digits more
pub two_more : {out out₁ out₂ out₃ : List ℕ} {at r p q : ℕ} (bs : List ℕ) (i h l : ℕ) → i < length bs → Put out at (hexed (take i bs)) r out₁
    → h ≡ glyph_of (get_or bs i 0 / 16) → Put out₁ r (h ∷ []) p out₂ → l ≡ glyph_of (get_or bs i 0 % 16) → Put out₂ p (l ∷ []) q out₃
    → Put out at (hexed (take (i + 1) bs)) q out₃
two_more bs i h l k w a x b y =
    let e : hexed (take (i + 1) bs) ≡ hexed (take i bs) ++ (h ∷ l ∷ []) =
    rw add-one (ap hexed (take-suc bs i 0 k) ∙ hexed_append (take i bs) (get_or bs i 0 ∷ []) ∙ rw (a, b) refl) in
    put_as (append_assoc (hexed (take i bs)) (h ∷ []) (l ∷ []) ∙ sym e) (chain (chain w x) y)

-- ---- a printed byte reads back

below_by : (d : ℕ) (b : Bool) → ltb d 10 ≡ b → d < 16 → nibble_of (glyph_of d) ≡ d
below_by d true e h =
    let k = ltb-true d 10 e in
    simp (e, le-ltb (48 + d) 48 (omega arith), le-leb (48 + d) 57 (omega arith)) (omega arith)
below_by d false e h =
    let k = ltb-false d 10 e in
    simp (
      e,
      le-ltb (87 + d) 48 (omega arith),
      lt-leb (87 + d) 57 (omega arith),
      le-ltb (87 + d) 65 (omega arith),
      lt-leb (87 + d) 70 (omega arith),
      le-ltb (87 + d) 97 (omega arith),
      le-leb (87 + d) 102 (omega arith),
    ) (omega arith)

below : (d : ℕ) → d < 16 → nibble_of (glyph_of d) ≡ d
below d h = below_by d (ltb d 10) refl h

pub read_back : (bs : List ℕ) → Bytes bs → unhexed (hexed bs) ≡ bs
read_back [] w = refl
read_back (b ∷ bs) w =
    let p = below (b / 16) (omega arith) in
    let q = below (b % 16) (omega arith) in
    simp (p, q, le-leb (b / 16) 15 (omega arith), le-leb (b % 16) 15 (omega arith), read_back bs w.1)
    (ap (λ (x : ℕ). x ∷ bs) (omega arith))

pub hexed_length : (bs : List ℕ) → length (hexed bs) ≡ 2 * length bs
hexed_length [] = refl
hexed_length (b ∷ bs) = let e = hexed_length bs in omega arith
