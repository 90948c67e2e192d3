-- Laws of any table: `s` the slots, `n` the field `len`, `k` the number of entries.
use Prim.Native.Nat.compare
use Prim.Native.Nat.{ℕ, suc, zero, ◌+◌, ◌-◌, ◌<◌, ◌≤◌, min}
use borrow.Author.Tests.{lt-ltb, le-ltb}
use lib.Dec.{ltb}
use lib.ListN.{length, take, drop, get_or, set, length-take, length-map, length-set, length-append, take-append-drop, drop_of_length-le}
use lib.Seq.{drop-cons, take_all, set_split, get_or-take, get_or-drop, take-set-lt, drop-set-lt, take-suc-set, take-take, set-get_or, drop-drop, length-take-le}
use mathlib.Core.Bool.{Bool, true, false, cond}
use mathlib.Core.List.{List, [], ◌∷◌, ◌++◌, map, append_assoc, append-nil}
use mathlib.Core.Logic.{⊎_elim}
use mathlib.Core.Path.{◌≡◌, refl, ap, ap₂, sym, ◌∙◌}
use native.Mathlib.Nat.{eq-or-lt_of_le}
use native.Mathlib.Numerals.{add-one}
use native.Mathlib.Omega.{arith}
use Rattle.table.specs.Table.{filled, last_of, front_of, swap_remove, without, kept, at_first_is, any_of, first_of, fold_over}

-- `length s ≡ 16` of a parameter's field: `search (needs, mapped)`
pub mapped : (X Y : Type 0) (f : X → Y) (l : List X) (n : ℕ) → length (map f l) ≡ n → length l ≡ n
mapped X Y f l n h = sym (length-map l f) ∙ h

module _ {A : Type 0} where
  take_again : (n : ℕ) (l : List A) → take (length (take n l)) l ≡ take n l
  take_again zero l = refl
  take_again (suc n) [] = refl
  take_again (suc n) (x ∷ l) = ap (λ (t : List A). x ∷ t) (take_again n l)

  -- slots that begin with the entries and go on as the old ones
  pub made : (s t xs : List A) (n : ℕ) → length xs ≡ n → take n t ≡ xs → drop n t ≡ drop n s → t ≡ filled s xs
  made s t xs n e p q = rw e (sym (take-append-drop n t) ∙ ap₂ (λ (a b : List A). a ++ b) p q)

  pub entry_at : (d : A) (s : List A) (n i : ℕ) → i < length (take n s) → get_or (take n s) i d ≡ get_or s i d
  entry_at d s n i h =
      let k : i < n = omega (arith, length-take n s) in
      get_or-take n s i d k

  pub entries_from : (d : A) (s : List A) (n i : ℕ) → i < length (take n s)
      → drop i (take n s) ≡ get_or s i d ∷ drop (i + 1) (take n s)
  entries_from d s n i h =
      rw (add-one i)
      (drop-cons (take n s) i d h ∙ ap (λ (x : A). x ∷ drop (suc i) (take n s)) (entry_at d s n i h))

  pub agree : (a b : List A) (w i : ℕ) (d : A) → w ≤ i → drop w a ≡ drop w b → get_or a i d ≡ get_or b i d
  agree a b w i d h e =
      let z : w + (i - w) ≡ i = omega arith in
      rw (← z) (sym (get_or-drop w a (i - w) d) ∙ (ap (λ (l : List A). get_or l (i - w) d) e ∙ get_or-drop w b (i - w) d))

  pub agree_from : (a b : List A) (w : ℕ) → drop w a ≡ drop w b → drop (w + 1) a ≡ drop (w + 1) b
  agree_from a b w e = sym (drop-drop 1 w a) ∙ (ap (λ (l : List A). drop 1 l) e ∙ drop-drop 1 w b)

  -- one more written slot
  pub one_more : (s : List A) (w : ℕ) (x : A) → w < length s → take (w + 1) (set s w x) ≡ take w s ++ (x ∷ [])
  one_more s w x h = rw (add-one w) (take-suc-set s w x h)

  hole : (d : A) (s : List A) (i m : ℕ) → i ≤ m → drop m (set s i (get_or s m d)) ≡ drop m s
  hole d s i m h =
      ⊎_elim (λ p. rw p (ap (λ (l : List A). drop m l) (set-get_or s m d))) (λ q. drop-set-lt m s i (get_or s m d) q) (eq-or-lt_of_le h)

module _ {A : Type 0} where
  last_take : (m : ℕ) (y d : A) (ys : List A) → m ≤ length ys → last_of y (take m ys) ≡ get_or (y ∷ ys) m d
  last_take zero y d ys h = refl
  last_take (suc m) y d [] h = absurd (omega arith)
  last_take (suc m) y d (z ∷ ys) h = last_take m z d ys (omega arith)

  front_take : (m : ℕ) (y : A) (ys : List A) → m ≤ length ys → front_of y (take m ys) ≡ take m (y ∷ ys)
  front_take zero y ys h = refl
  front_take (suc m) y [] h = absurd (omega arith)
  front_take (suc m) y (z ∷ ys) h = ap {B = List A} (λ l. y ∷ l) (front_take m z ys (omega arith))

  -- the entry at i of the first m + 1 goes: the last of them is stored there, and m are left
  pub swap_array : (i m : ℕ) (es : List A) (d : A) → i ≤ m → m < length es → take m (set es i (get_or es m d)) ≡ swap_remove i (take (suc m) es)
  swap_array zero zero [] d h g = absurd (omega arith)
  swap_array zero zero (x ∷ es) d h g = refl
  swap_array zero (suc m) [] d h g = absurd (omega arith)
  swap_array zero (suc m) (x ∷ []) d h g = absurd (omega arith)
  swap_array zero (suc m) (x ∷ y ∷ es) d h g = rw (last_take m y d es (omega arith), front_take m y es (omega arith))
  swap_array (suc i) zero es d h g = absurd (omega arith)
  swap_array (suc i) (suc m) [] d h g = absurd (omega arith)
  swap_array (suc i) (suc m) (x ∷ es) d h g = ap {B = List A} (λ l. x ∷ l) (swap_array i m es d (omega arith) (omega arith))

module _ {A : Type 0} (s : List A) (n k : ℕ) (e : k ≡ length (take n s)) where
  pub take_count : take k s ≡ take n s
  take_count = rw e (take_again n s)

  pub over : (i : ℕ) (x : A) → i < k → set s i x ≡ filled s (set (take n s) i x)
  over i x h =
      made s (set s i x) (set (take n s) i x) k (length-set (take n s) i x ∙ sym e)
      (take-set-lt k s i x h ∙ ap (λ (l : List A). set l i x) take_count) (drop-set-lt k s i x h)

  pub at_end : (x : A) → k < length s → set s k x ≡ filled s (take n s ++ (x ∷ []))
  at_end x h =
      made s (set s k x) (take n s ++ (x ∷ [])) (k + 1) (simp length-append (omega arith))
      (one_more s k x h ∙ ap (λ (l : List A). l ++ (x ∷ [])) take_count) (drop-set-lt (k + 1) s k x (omega arith))

  -- the last entry is stored at i
  pub moved_in : (d : A) (i : ℕ) → i < k → set s i (get_or s (k - 1) d) ≡ filled s (swap_remove i (take n s))
  moved_in d i h =
      let m : ℕ = k - 1 in
      let v : A = get_or s m d in
      let same : set (take n s) i v ≡ take k (set s i v) = sym (take-set-lt k s i v h ∙ ap (λ (l : List A). set l i v) take_count) in
      let x : get_or (take n s) m d ≡ v = entry_at d s n m (omega arith) in
      let w : take m (set (take n s) i v) ≡ swap_remove i (take n s) =
      ap (λ (y : A). take m (set (take n s) i y)) (sym x)
      ∙ (swap_array i m (take n s) d (omega arith) (omega arith) ∙ ap (λ (l : List A). swap_remove i l) (take_all (suc m) (take n s) (omega arith))) in
      made s (set s i v) (swap_remove i (take n s)) m
      (ap length (sym w) ∙ omega (arith, length-take m (set (take n s) i v), length-set (take n s) i v))
      (sym (take-take m k (set s i v) (omega arith)) ∙ (ap (λ (l : List A). take m l) (sym same) ∙ w))
      (hole d s i m (omega arith))

  pub moved_count : (d : A) (i : ℕ) → i < k → length (swap_remove i (take n s)) ≡ k - 1
  moved_count d i h =
      let m : ℕ = k - 1 in
      let w : take m (set (take n s) i (get_or (take n s) m d)) ≡ swap_remove i (take n s) =
      swap_array i m (take n s) d (omega arith) (omega arith) ∙ ap (λ (l : List A). swap_remove i l) (take_all (suc m) (take n s) (omega arith)) in
      ap length (sym w) ∙ omega (arith, length-take m (set (take n s) i (get_or (take n s) m d)), length-set (take n s) i (get_or (take n s) m d))

-- Compaction: `w` slots are written and `i` read

pub record Keeping {A : Type 0} (gone : A → Bool) (s₀ : List A) (n : ℕ) (s : List A) (w i : ℕ) : Type 0 where
  pub low : w ≤ i
  pub long : length s ≡ length s₀
  pub so_far : take w s ++ kept gone (drop i (take n s₀)) ≡ kept gone (take n s₀)
  pub rest : drop w s ≡ drop w s₀

module _ {A : Type 0} (d : A) (gone : A → Bool) (s₀ : List A) (n : ℕ) (s : List A) (w i : ℕ) (inv : Keeping gone s₀ n s w i) where
  pub next : i < length (take n s₀) → drop i (take n s₀) ≡ get_or s i d ∷ drop (i + 1) (take n s₀)
  next h =
      entries_from d s₀ n i h
      ∙ ap (λ (x : A). x ∷ drop (i + 1) (take n s₀)) (sym (agree s s₀ w i d inv.low inv.rest))

  pub drops : i < length (take n s₀) → gone (get_or s i d) ≡ true → Keeping gone s₀ n s w (i + 1)
  drops h g = record { low = omega arith; long = inv.long; so_far = sym (simp (next h, g)) ∙ inv.so_far; rest = inv.rest }

  pub keeps : i < length (take n s₀) → gone (get_or s i d) ≡ false → Keeping gone s₀ n (set s w (get_or s i d)) (w + 1) (i + 1)
  keeps h g =
      let x : A = get_or s i d in
      let tail : List A = kept gone (drop (i + 1) (take n s₀)) in
      let lw : w < length s = omega (arith, inv.low, inv.long, length-take n s₀) in
      record {
        low = omega (arith, inv.low);
        long = length-set s w x ∙ inv.long;
        so_far =
            ap (λ (l : List A). l ++ tail) (one_more s w x lw)
            ∙ (append_assoc (take w s) (x ∷ []) tail ∙ (sym (simp (next h, g)) ∙ inv.so_far));
        rest = drop-set-lt (w + 1) s w x (omega arith) ∙ agree_from s s₀ w inv.rest;
      }

-- at the end: the slots, and the count
module _ {A : Type 0} (gone : A → Bool) (s₀ : List A) (n : ℕ) (s : List A) (w i : ℕ) (inv : Keeping gone s₀ n s w i) where
  pub all_kept : length (take n s₀) ≤ i → w ≤ length s₀ → (s ≡ filled s₀ (kept gone (take n s₀))) × (w ≡ length (kept gone (take n s₀)))
  all_kept h hw =
      let e : take w s ≡ kept gone (take n s₀) = sym (append-nil (take w s)) ∙ (simp (drop_of_length-le (take n s₀) h) at inv.so_far) in
      let l : length (kept gone (take n s₀)) ≡ w = ap length (sym e) ∙ length-take-le w s (omega (arith, inv.long)) in
      (made s₀ s (kept gone (take n s₀)) w l e inv.rest, sym l)

-- Collecting into an array: `m` slots are written, and `todo` is still to come

pub record Collecting {B : Type 0} (goal b₀ b : List B) (m : ℕ) (todo : List B) : Type 0 where
  pub so_far : take m b ++ todo ≡ goal
  pub rest : drop m b ≡ drop m b₀
  pub long : length b ≡ length b₀

module _ {B : Type 0} (goal b₀ b : List B) (m : ℕ) (todo : List B) (inv : Collecting goal b₀ b m todo) where
  pub nothing : (todo' : List B) → todo ≡ todo' → Collecting goal b₀ b m todo'
  nothing todo' e = record { so_far = ap (λ (l : List B). take m b ++ l) (sym e) ∙ inv.so_far; rest = inv.rest; long = inv.long }

  pub collect : (x : B) (todo' : List B) → todo ≡ x ∷ todo' → m < length b₀ → Collecting goal b₀ (set b m x) (m + 1) todo'
  collect x todo' e h =
      let lm : m < length b = omega (arith, inv.long) in
      record {
        so_far =
            ap (λ (l : List B). l ++ todo') (one_more b m x lm)
            ∙ (append_assoc (take m b) (x ∷ []) todo' ∙ (ap (λ (l : List B). take m b ++ l) (sym e) ∙ inv.so_far));
        rest = drop-set-lt (m + 1) b m x (omega arith) ∙ agree_from b b₀ m inv.rest;
        long = length-set b m x ∙ inv.long;
      }

  pub collected : todo ≡ [] → m ≤ length b₀ → (b ≡ filled b₀ goal) × (m ≡ length goal)
  collected e h =
      let p : take m b ≡ goal = sym (append-nil (take m b)) ∙ (ap (λ (l : List B). take m b ++ l) (sym e) ∙ inv.so_far) in
      let l : length goal ≡ m = ap length (sym p) ∙ length-take-le m b (omega (arith, inv.long)) in
      (made b₀ b goal m l p inv.rest, sym l)

-- A table that was made: its slots and its count
pub record Made {A : Type 0} (s xs t : List A) (n : ℕ) : Type 0 where
  pub slots : t ≡ filled s xs
  pub count : n ≡ length xs

-- Looking for the first entry that passes: none of the first `i` does
pub record Seeking {A : Type 0} (test : A → Bool) (f : A → List A) (new es : List A) (i : ℕ) : Type 0 where
  pub so_far : take i es ++ at_first_is test f new (drop i es) ≡ at_first_is test f new es
  pub any : any_of test (drop i es) ≡ any_of test es

pub seek : {A : Type 0} (test : A → Bool) (f : A → List A) (new es : List A) → Seeking test f new es 0
seek test f new es = record { so_far = refl; any = refl }

module _ {A : Type 0} (d : A) (test : A → Bool) (f : A → List A) (new s : List A) (n i : ℕ) (inv : Seeking test f new (take n s) i) where
  module _ (h : i < length (take n s)) (g : test (get_or s i d) ≡ true) where
    pub hit : take i (take n s) ++ (f (get_or s i d) ++ drop (i + 1) (take n s)) ≡ at_first_is test f new (take n s)
    hit =
        let a : at_first_is test f new (drop i (take n s)) ≡ f (get_or s i d) ++ drop (i + 1) (take n s) =
        simp (entries_from d s n i h, g) in
        ap (λ (l : List A). take i (take n s) ++ l) (sym a) ∙ inv.so_far

    pub hit_any : any_of test (take n s) ≡ true
    hit_any = let a : any_of test (drop i (take n s)) ≡ true = simp (entries_from d s n i h, g) in sym inv.any ∙ a

    -- it is stored over
    pub hit_over : (y : A) (k : ℕ) → k ≡ length (take n s) → f (get_or s i d) ≡ y ∷ [] → Made s (at_first_is test f new (take n s)) (set s i y) k
    hit_over y k e p =
        let es : List A = take n s in
        let w : set es i y ≡ at_first_is test f new es =
        set_split es i y h
        ∙ (ap (λ (m : ℕ). take i es ++ (y ∷ drop m es)) (sym (add-one i))
        ∙ (ap (λ (l : List A). take i es ++ (l ++ drop (i + 1) es)) (sym p) ∙ hit)) in
        record {
          slots = over s n k e i y (omega arith) ∙ ap (λ (l : List A). filled s l) w;
          count = e ∙ (sym (length-set es i y) ∙ ap length w);
        }

    -- it stays
    pub hit_stays : (k : ℕ) → k ≡ length (take n s) → f (get_or s i d) ≡ get_or s i d ∷ [] → Made s (at_first_is test f new (take n s)) s k
    hit_stays k e p =
        let m = hit_over (get_or s i d) k e p in
        record { slots = sym (set-get_or s i d) ∙ m.slots; count = m.count }

    -- it goes
    pub hit_goes : f (get_or s i d) ≡ [] → without (take n s) i ≡ at_first_is test f new (take n s)
    hit_goes p = ap (λ (l : List A). take i (take n s) ++ (l ++ drop (i + 1) (take n s))) (sym p) ∙ hit

  module _ (h : length (take n s) ≤ i) where
    pub missed : take n s ++ new ≡ at_first_is test f new (take n s)
    missed =
        let a : at_first_is test f new (drop i (take n s)) ≡ new = simp (drop_of_length-le (take n s) h) in
        ap₂ (λ (l m : List A). l ++ m) (sym (take_all i (take n s) h)) (sym a) ∙ inv.so_far

    pub missed_any : any_of test (take n s) ≡ false
    missed_any = let a : any_of test (drop i (take n s)) ≡ false = simp (drop_of_length-le (take n s) h) in sym inv.any ∙ a

    pub missed_end : (y : A) (k : ℕ) → k ≡ length (take n s) → k < length s → new ≡ y ∷ []
        → Made s (at_first_is test f new (take n s)) (set s k y) (k + 1)
    missed_end y k e l p =
        let w : take n s ++ (y ∷ []) ≡ at_first_is test f new (take n s) = ap (λ (m : List A). take n s ++ m) (sym p) ∙ missed in
        let c : k + 1 ≡ length (take n s ++ (y ∷ [])) = simp length-append (omega arith) in
        record { slots = at_end s n k e y l ∙ ap (λ (m : List A). filled s m) w; count = c ∙ ap length w }

    pub missed_stays : (k : ℕ) → k ≡ length (take n s) → new ≡ [] → Made s (at_first_is test f new (take n s)) s k
    missed_stays k e p =
        let w : take n s ≡ at_first_is test f new (take n s) =
        sym (append-nil (take n s)) ∙ (ap (λ (m : List A). take n s ++ m) (sym p) ∙ missed) in
        record {
          slots = made s s (at_first_is test f new (take n s)) k (sym (e ∙ ap length w)) (take_count s n k e ∙ w) refl;
          count = e ∙ ap length w;
        }

-- The loop of a search in a table: `k` is its count, `i` the next place
pub record Finding {A : Type 0} (size : ℕ) (test : A → Bool) (f : A → List A) (new s : List A) (n k i : ℕ) : Type 0 where
  pub low : i ≤ k
  pub most : k ≤ size
  pub full : length s ≡ size
  pub count : k ≡ length (take n s)
  pub seeking : Seeking test f new (take n s) i

pub counted : {A : Type 0} (s : List A) (n size k : ℕ) → length s ≡ size → k ≡ min n size → k ≡ length (take n s)
counted s n size k full e = omega (arith, length-take n s)

pub finding : {A : Type 0} (size : ℕ) (test : A → Bool) (f : A → List A) (new s : List A) (n k : ℕ) → length s ≡ size → k ≡ min n size
    → Finding size test f new s n k 0
finding size test f new s n k full e =
    record { low = omega arith; most = omega arith; full = full; count = counted s n size k full e; seeking = seek test f new (take n s) }

module _ {A : Type 0} (d : A) {size : ℕ} {test : A → Bool} {f : A → List A} {new s : List A} {n k i : ℕ}
    (inv : Finding size test f new s n k i) where
  module _ (h : i < k) where
    within : i < length (take n s)
    within = omega (arith, inv.count)

    module _ (g : test (get_or s i d) ≡ true) where
      pub found_over : (y : A) → f (get_or s i d) ≡ y ∷ [] → Made s (at_first_is test f new (take n s)) (set s i y) k
      found_over y p = hit_over d test f new s n i inv.seeking within g y k inv.count p

      pub found_stays : f (get_or s i d) ≡ get_or s i d ∷ [] → Made s (at_first_is test f new (take n s)) s k
      found_stays p = hit_stays d test f new s n i inv.seeking within g k inv.count p

      pub found_goes : f (get_or s i d) ≡ [] → without (take n s) i ≡ at_first_is test f new (take n s)
      found_goes p = hit_goes d test f new s n i inv.seeking within g p

      pub found_any : any_of test (take n s) ≡ true
      found_any = hit_any d test f new s n i inv.seeking within g

  module _ (h : k ≤ i) where
    past : length (take n s) ≤ i
    past = omega (arith, inv.count)

    pub absent_end : (y : A) → k < size → new ≡ y ∷ [] → Made s (at_first_is test f new (take n s)) (set s k y) (k + 1)
    absent_end y l p = missed_end d test f new s n i inv.seeking past y k inv.count (omega (arith, inv.full)) p

    pub absent_stays : new ≡ [] → Made s (at_first_is test f new (take n s)) s k
    absent_stays p = missed_stays d test f new s n i inv.seeking past k inv.count p

    pub absent_any : any_of test (take n s) ≡ false
    absent_any = missed_any d test f new s n i inv.seeking past

-- The loop that looks for the first entry, to answer
pub record Scanning {A B : Type 0} (size : ℕ) (test : A → Bool) (f : A → B) (none : B) (s : List A) (n k i : ℕ) : Type 0 where
  pub low : i ≤ k
  pub most : k ≤ size
  pub full : length s ≡ size
  pub count : k ≡ length (take n s)
  pub same : first_of test f none (drop i (take n s)) ≡ first_of test f none (take n s)

pub scanning : {A B : Type 0} (size : ℕ) (test : A → Bool) (f : A → B) (none : B) (s : List A) (n k : ℕ) → length s ≡ size → k ≡ min n size
    → Scanning size test f none s n k 0
scanning size test f none s n k full e =
    record { low = omega arith; most = omega arith; full = full; count = counted s n size k full e; same = refl }

module _ {A B : Type 0} (d : A) {size : ℕ} {test : A → Bool} {f : A → B} {none : B} {s : List A} {n k i : ℕ}
    (inv : Scanning size test f none s n k i) where
  module _ (h : i < k) where
    here : drop i (take n s) ≡ get_or s i d ∷ drop (i + 1) (take n s)
    here = entries_from d s n i (omega (arith, inv.count))

    pub scan_found : test (get_or s i d) ≡ true → f (get_or s i d) ≡ first_of test f none (take n s)
    scan_found g = let a : first_of test f none (drop i (take n s)) ≡ f (get_or s i d) = simp (here, g) in sym a ∙ inv.same

  pub scan_none : k ≤ i → none ≡ first_of test f none (take n s)
  scan_none h =
      let l : length (take n s) ≤ i = omega (arith, inv.count) in
      let a : first_of test f none (drop i (take n s)) ≡ none = simp (drop_of_length-le (take n s) l) in
      sym a ∙ inv.same

-- The loop over all entries, in order
pub record Folding {A B : Type 0} (size : ℕ) (step : B → A → B) (b₀ : B) (s : List A) (n k i : ℕ) (b : B) : Type 0 where
  pub low : i ≤ k
  pub most : k ≤ size
  pub full : length s ≡ size
  pub count : k ≡ length (take n s)
  pub same : fold_over step b (drop i (take n s)) ≡ fold_over step b₀ (take n s)

pub folding : {A B : Type 0} (size : ℕ) (step : B → A → B) (b₀ : B) (s : List A) (n k : ℕ) → length s ≡ size → k ≡ min n size
    → Folding size step b₀ s n k 0 b₀
folding size step b₀ s n k full e =
    record { low = omega arith; most = omega arith; full = full; count = counted s n size k full e; same = refl }

module _ {A B : Type 0} (d : A) {size : ℕ} {step : B → A → B} {b₀ : B} {s : List A} {n k i : ℕ} {b : B}
    (inv : Folding size step b₀ s n k i b) where
  pub fold_next : (b' : B) → i < k → b' ≡ step b (get_or s i d) → Folding size step b₀ s n k (i + 1) b'
  fold_next b' h e =
      let l : drop i (take n s) ≡ get_or s i d ∷ drop (i + 1) (take n s) = entries_from d s n i (omega (arith, inv.count)) in
      let a : fold_over step b (drop i (take n s)) ≡ fold_over step (step b (get_or s i d)) (drop (i + 1) (take n s)) = simp l in
      record {
        low = omega arith;
        most = inv.most;
        full = inv.full;
        count = inv.count;
        same = ap (λ (x : B). fold_over step x (drop (i + 1) (take n s))) e ∙ (sym a ∙ inv.same);
      }

  pub folded : k ≤ i → b ≡ fold_over step b₀ (take n s)
  folded h =
      let l : length (take n s) ≤ i = omega (arith, inv.count) in
      let a : fold_over step b (drop i (take n s)) ≡ b = simp (drop_of_length-le (take n s) l) in
      sym a ∙ inv.same

-- The loop that changes each entry in place
pub record Mapping {A : Type 0} (size : ℕ) (f : A → A) (s₀ : List A) (n k : ℕ) (s : List A) (i : ℕ) : Type 0 where
  pub low : i ≤ k
  pub most : k ≤ size
  pub full : length s ≡ size
  pub count : k ≡ length (take n s₀)
  pub done : take i s ++ map f (drop i (take n s₀)) ≡ map f (take n s₀)
  pub rest : drop i s ≡ drop i s₀

pub mapping : {A : Type 0} (size : ℕ) (f : A → A) (s : List A) (n k : ℕ) → length s ≡ size → k ≡ min n size → Mapping size f s n k s 0
mapping size f s n k full e =
    record { low = omega arith; most = omega arith; full = full; count = counted s n size k full e; done = refl; rest = refl }

module _ {A : Type 0} (d : A) {size : ℕ} {f : A → A} {s₀ : List A} {n k : ℕ} {s : List A} {i : ℕ} (inv : Mapping size f s₀ n k s i) where
  -- the entry that is read is the old one
  pub map_reads : get_or s i d ≡ get_or s₀ i d
  map_reads = agree s s₀ i i d (omega arith) inv.rest

  pub map_next : (y : A) → i < k → y ≡ f (get_or s i d) → Mapping size f s₀ n k (set s i y) (i + 1)
  map_next y h e =
      let tail : List A = map f (drop (i + 1) (take n s₀)) in
      let li : i < length s = omega (arith, inv.full, inv.most) in
      let l : drop i (take n s₀) ≡ get_or s i d ∷ drop (i + 1) (take n s₀) =
      entries_from d s₀ n i (omega (arith, inv.count)) ∙ ap (λ (x : A). x ∷ drop (i + 1) (take n s₀)) (sym map_reads) in
      let m : map f (drop i (take n s₀)) ≡ y ∷ tail = ap (map f) l ∙ ap (λ (x : A). x ∷ tail) (sym e) in
      record {
        low = omega arith;
        most = inv.most;
        full = length-set s i y ∙ inv.full;
        count = inv.count;
        done =
            ap (λ (l : List A). l ++ tail) (one_more s i y li)
            ∙ (append_assoc (take i s) (y ∷ []) tail ∙ (ap (λ (l : List A). take i s ++ l) (sym m) ∙ inv.done));
        rest = drop-set-lt (i + 1) s i y (omega arith) ∙ agree_from s s₀ i inv.rest;
      }

  -- an entry that stays is not stored
  pub map_stays : i < k → get_or s i d ≡ f (get_or s i d) → Mapping size f s₀ n k s (i + 1)
  map_stays h e = rw (set-get_or s i d) at (map_next (get_or s i d) h e)

  pub mapped_all : k ≤ i → Made s₀ (map f (take n s₀)) s k
  mapped_all h =
      let es : List A = take n s₀ in
      let e : i ≡ k = omega (arith, inv.low) in
      let l : length es ≤ i = omega (arith, inv.count) in
      let p : take i s ≡ map f es = sym (append-nil (take i s)) ∙ (simp (drop_of_length-le es l) at inv.done) in
      let c : length (map f es) ≡ i = length-map es f ∙ omega (arith, inv.count) in
      record { slots = made s₀ s (map f es) i c p inv.rest; count = sym (c ∙ e) }

-- The entry at an index, for a listing
module _ {A B : Type 0} (d : A) (f : A → B) (none : B) (s : List A) (n size k i : ℕ) (full : length s ≡ size) (e : k ≡ min n size) where
  pub at_entry : i < k → f (get_or s i d) ≡ cond (ltb i (length (take n s))) (f (get_or (take n s) i d)) none
  at_entry h =
      let l : i < length (take n s) = omega (arith, counted s n size k full e) in
      rw (lt-ltb i (length (take n s)) l, entry_at d s n i l)

  pub at_none : k ≤ i → none ≡ cond (ltb i (length (take n s))) (f (get_or (take n s) i d)) none
  at_none h =
      let l : length (take n s) ≤ i = omega (arith, counted s n size k full e) in
      rw (le-ltb i (length (take n s)) l)

-- Fewer are kept exactly if some are gone
module _ {A : Type 0} (gone : A → Bool) where
  most_step : (b : Bool) (x : A) (ys xs : List A) → length ys ≤ length xs → length (cond b ys (x ∷ ys)) ≤ length (x ∷ xs)
  most_step true x ys xs h = omega arith
  most_step false x ys xs h = omega arith

  kept_most : (es : List A) → length (kept gone es) ≤ length es
  kept_most [] = omega arith
  kept_most (x ∷ xs) = most_step (gone x) x (kept gone xs) xs (kept_most xs)

  fewer_step : (b any : Bool) (x : A) (ys xs : List A) → length ys ≤ length xs → ltb (length ys) (length xs) ≡ any
      → ltb (length (cond b ys (x ∷ ys))) (length (x ∷ xs)) ≡ cond b true any
  fewer_step true any x ys xs h e = lt-ltb (length ys) (length (x ∷ xs)) (omega arith)
  fewer_step false any x ys xs h e = rw compare.suc-suc e

  pub fewer : (es : List A) → ltb (length (kept gone es)) (length es) ≡ any_of gone es
  fewer [] = refl
  fewer (x ∷ xs) = fewer_step (gone x) (any_of gone xs) x (kept gone xs) xs (kept_most xs) (fewer xs)
