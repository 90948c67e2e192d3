-- Facts of lists. Assumes nothing.
use Prim.Native.Nat.{ℕ, zero, suc, ◌+◌, ◌≤◌, ◌<◌}
use lib.ListN.{length, take, drop, length-append}
use lib.Seq.{take_at}
use mathlib.Core.Bool.{Bool, true, false, cond, ◌||◌, true≢false}
use mathlib.Core.List.{List, [], ◌∷◌, ◌++◌, map}
use mathlib.Core.Logic.{◌⊎◌, inl, inr}
use mathlib.Core.Path.{◌≡◌, refl, sym, ap, ◌∙◌, subst}
use native.Mathlib.Omega.{arith}
use Rattle.claims.specs.Lists.{All, Some, Member}
use Rattle.table.proofs.Kept.{kept_again, filled_again}
use Rattle.table.specs.Table.{swap_remove, last_of, front_of, last_first, kept, dropped, at_first_is, any_of, fold_over, filled}

-- Tests: x, or else y

pub either_none : (x y : Bool) → cond x true y ≡ false → (x ≡ false) × (y ≡ false)
either_none true y h = absurd (true≢false h)
either_none false y h = (refl, h)

pub none_either : (x y : Bool) → x ≡ false → y ≡ false → cond x true y ≡ false
none_either x y e f = rw e f

either_left : (x y : Bool) → x ≡ true → cond x true y ≡ true
either_left x y h = rw h

either_right : (x y : Bool) → y ≡ true → cond x true y ≡ true
either_right true y h = refl
either_right false y h = h

pub or_none : (x y : Bool) → (x || y) ≡ false → (x ≡ false) × (y ≡ false)
or_none true y h = absurd (true≢false h)
or_none false y h = (refl, h)

pub or_left : (x y : Bool) → x ≡ true → (x || y) ≡ true
or_left x y h = rw h

pub or_right : (x y : Bool) → y ≡ true → (x || y) ≡ true
or_right true y h = refl
or_right false y h = h

pub lift : (y a u v : Bool) → (u ≡ true → v ≡ true) → cond y a u ≡ true → cond y a v ≡ true
lift true a u v f h = h
lift false a u v f h = f h

-- Appending, and the entries of a table

pub append-nil : {A : Type 0} (l : List A) → l ++ [] ≡ l
append-nil [] = refl
append-nil (x ∷ l) = rw (append-nil l)

pub map_append : {A B : Type 0} (f : A → B) (xs ys : List A) → map f (xs ++ ys) ≡ map f xs ++ map f ys
map_append f [] ys = refl
map_append f (x ∷ xs) ys = rw (map_append f xs ys)

pub fold_append : {A B : Type 0} (step : B → A → B) (b : B) (xs ys : List A) → fold_over step b (xs ++ ys) ≡ fold_over step (fold_over step b xs) ys
fold_append step b [] ys = refl
fold_append step b (x ∷ xs) ys = fold_append step (step b x) xs ys

pub entries_with : {A : Type 0} (s xs : List A) → take (length xs) (filled s xs) ≡ xs
entries_with s xs = take_at xs (drop (length xs) s) (length xs) refl

-- a table whose entries go by the same test twice is as after the first time, slot for slot
module _ {A : Type 0} (slots : List A) (len : ℕ) (gone : A → Bool) where
  pub twice_slots : filled (filled slots (kept gone (take len slots))) (kept gone (take (length (kept gone (take len slots))) (filled slots (kept gone (take len slots)))))
      ≡ filled slots (kept gone (take len slots))
  twice_slots = rw (entries_with slots (kept gone (take len slots)), kept_again gone (take len slots)) (filled_again slots (kept gone (take len slots)))

  pub twice_count : length (kept gone (take (length (kept gone (take len slots))) (filled slots (kept gone (take len slots))))) ≡ length (kept gone (take len slots))
  twice_count = rw (entries_with slots (kept gone (take len slots))) (ap length (kept_again gone (take len slots)))

-- Lengths

front_last : {A : Type 0} (e : A) (t : List A) → front_of e t ++ (last_of e t ∷ []) ≡ e ∷ t
front_last e [] = refl
front_last e (f ∷ t) = rw (front_last f t)

pub length_last_first : {A : Type 0} (t : List A) → length (last_first t) ≡ length t
length_last_first [] = refl
length_last_first (e ∷ t) = omega (arith, length-append (front_of e t) (last_of e t ∷ []), ap length (front_last e t))

pub swap_length : {A : Type 0} (i : ℕ) (t : List A) → length (swap_remove i t) ≤ length t
swap_length i [] = omega arith
swap_length zero (e ∷ t) = omega (arith, length_last_first t)
swap_length (suc i) (e ∷ t) = omega (arith, swap_length i t)

pub swap_one : {A : Type 0} (i : ℕ) (t : List A) → i < length t → suc (length (swap_remove i t)) ≡ length t
swap_one i [] h = absurd (omega arith)
swap_one zero (e ∷ t) h = omega (arith, length_last_first t)
swap_one (suc i) (e ∷ t) h = omega (arith, swap_one i t (omega arith))

pub kept_length : {A : Type 0} (test : A → Bool) (t : List A) → length (kept test t) ≤ length t
kept_length test [] = omega arith
kept_length test (e ∷ t) = go (test e) (kept_length test t)
  where
    go : (x : Bool) → length (kept test t) ≤ length t → length (cond x (kept test t) (e ∷ kept test t)) ≤ suc (length t)
    go true h = omega arith
    go false h = omega arith

pub first_length : {A : Type 0} (test : A → Bool) (f : A → List A) (new xs : List A) → ((x : A) → length (f x) ≤ 1) → length new ≤ 1
    → length (at_first_is test f new xs) ≤ length xs + 1
first_length test f new [] m h = h
first_length test f new (x ∷ xs) m h = go (test x) (first_length test f new xs m h)
  where
    go : (b : Bool) → length (at_first_is test f new xs) ≤ length xs + 1 → length (cond b (f x ++ xs) (x ∷ at_first_is test f new xs)) ≤ length (x ∷ xs) + 1
    go true ih = omega (arith, length-append (f x) xs, m x)
    go false ih = omega (arith, ih)

pub one_most : {A : Type 0} (b : Bool) (x y : A) → length (cond b (x ∷ []) (y ∷ [])) ≤ 1
one_most true x y = omega arith
one_most false x y = omega arith

pub if_most : {A : Type 0} (b : Bool) (x : A) → length (cond b (x ∷ []) []) ≤ 1
if_most true x = omega arith
if_most false x = omega arith

pub none_most : {A : Type 0} (b : Bool) (x : A) → length (cond b [] (x ∷ [])) ≤ 1
none_most true x = omega arith
none_most false x = omega arith

-- None is seen

module _ {A : Type 0} (seen : A → Bool) where
  pub none_append : (xs ys : List A) → any_of seen xs ≡ false → any_of seen ys ≡ false → any_of seen (xs ++ ys) ≡ false
  none_append [] ys h g = g
  none_append (x ∷ xs) ys h g =
      let o = either_none (seen x) (any_of seen xs) h in
      none_either (seen x) (any_of seen (xs ++ ys)) o.0 (none_append xs ys o.1 g)

  pub none_parts : (xs ys : List A) → any_of seen (xs ++ ys) ≡ false → (any_of seen xs ≡ false) × (any_of seen ys ≡ false)
  none_parts [] ys h = (refl, h)
  none_parts (x ∷ xs) ys h =
      let o = either_none (seen x) (any_of seen (xs ++ ys)) h in
      let r = none_parts xs ys o.1 in
      (none_either (seen x) (any_of seen xs) o.0 r.0, r.1)

  pub none_first : (test : A → Bool) (f : A → List A) (new xs : List A) → any_of seen xs ≡ false → any_of seen new ≡ false
      → ((x : A) → test x ≡ true → seen x ≡ false → any_of seen (f x) ≡ false) → any_of seen (at_first_is test f new xs) ≡ false
  none_first test f new [] h n m = n
  none_first test f new (x ∷ xs) h n m = go (test x) refl (either_none (seen x) (any_of seen xs) h) (λ g. none_first test f new xs g n m)
    where
      go : (b : Bool) → test x ≡ b → (seen x ≡ false) × (any_of seen xs ≡ false) → (any_of seen xs ≡ false → any_of seen (at_first_is test f new xs) ≡ false)
          → any_of seen (cond b (f x ++ xs) (x ∷ at_first_is test f new xs)) ≡ false
      go true e o ih = none_append (f x) xs (m x e o.0) o.1
      go false e o ih = none_either (seen x) (any_of seen (at_first_is test f new xs)) o.0 (ih o.1)

  pub none_if : (b : Bool) (x : A) → seen x ≡ false → any_of seen (cond b (x ∷ []) []) ≡ false
  none_if true x h = rw h
  none_if false x h = refl

  -- what holds where none is seen, turned round
  pub back : (xs ys : List A) → (any_of seen xs ≡ false → any_of seen ys ≡ false) → any_of seen ys ≡ true → any_of seen xs ≡ true
  back xs ys f h = go (any_of seen xs) refl
    where
      go : (b : Bool) → any_of seen xs ≡ b → b ≡ true
      go true e = refl
      go false e = absurd (true≢false (sym h ∙ f e))

-- One is seen

module _ {A : Type 0} (seen : A → Bool) where
  pub any_append : (xs ys : List A) → any_of seen xs ≡ true → any_of seen (xs ++ ys) ≡ true
  any_append [] ys h = absurd (true≢false (sym h))
  any_append (x ∷ xs) ys h = lift (seen x) true (any_of seen xs) _ (any_append xs ys) h

  any_after : (xs ys : List A) → any_of seen ys ≡ true → any_of seen (xs ++ ys) ≡ true
  any_after [] ys h = h
  any_after (x ∷ xs) ys h = either_right (seen x) (any_of seen (xs ++ ys)) (any_after xs ys h)

  pub any_first : (test : A → Bool) (f : A → List A) (new xs : List A) → any_of seen xs ≡ true
      → ((x : A) → test x ≡ true → seen x ≡ true → any_of seen (f x) ≡ true) → any_of seen (at_first_is test f new xs) ≡ true
  any_first test f new [] h m = absurd (true≢false (sym h))
  any_first test f new (x ∷ xs) h m = go (test x) refl (λ r. any_first test f new xs r m)
    where
      there : (b : Bool) → seen x ≡ b → test x ≡ true → cond b true (any_of seen xs) ≡ true → any_of seen (f x ++ xs) ≡ true
      there true q e r = any_append (f x) xs (m x e q)
      there false q e r = any_after (f x) xs r

      go : (b : Bool) → test x ≡ b → (any_of seen xs ≡ true → any_of seen (at_first_is test f new xs) ≡ true)
          → any_of seen (cond b (f x ++ xs) (x ∷ at_first_is test f new xs)) ≡ true
      go true e ih = there (seen x) refl e h
      go false e ih = lift (seen x) true (any_of seen xs) _ ih h

  pub any_kept : (test : A → Bool) → ((x : A) → seen x ≡ true → test x ≡ false) → (xs : List A) → any_of seen xs ≡ true → any_of seen (kept test xs) ≡ true
  any_kept test m [] h = h
  any_kept test m (x ∷ xs) h = go (seen x) (test x) refl refl h (any_kept test m xs)
    where
      go : (b y : Bool) → seen x ≡ b → test x ≡ y → cond b true (any_of seen xs) ≡ true → (any_of seen xs ≡ true → any_of seen (kept test xs) ≡ true)
          → any_of seen (cond y (kept test xs) (x ∷ kept test xs)) ≡ true
      go true true q e r ih = absurd (true≢false (sym e ∙ m x q))
      go true false q e r ih = rw q
      go false true q e r ih = ih r
      go false false q e r ih = rw q (ih r)

  pub first_comes : (f : A → List A) (new xs : List A) → ((x : A) → seen x ≡ true → any_of seen (f x) ≡ true) → any_of seen new ≡ true
      → any_of seen (at_first_is seen f new xs) ≡ true
  first_comes f new [] m h = h
  first_comes f new (x ∷ xs) m h = go (seen x) refl (first_comes f new xs m h)
    where
      go : (b : Bool) → seen x ≡ b → any_of seen (at_first_is seen f new xs) ≡ true → any_of seen (cond b (f x ++ xs) (x ∷ at_first_is seen f new xs)) ≡ true
      go true e ih = any_append (f x) xs (m x e)
      go false e ih = rw e ih

-- Each is so

module _ {A : Type 0} (P : A → Type 0) where
  pub all_of : ((x : A) → P x) → (xs : List A) → All P xs
  all_of f [] = tt
  all_of f (x ∷ xs) = (f x, all_of f xs)

  pub all_append : (xs ys : List A) → All P xs → All P ys → All P (xs ++ ys)
  all_append [] ys h g = g
  all_append (x ∷ xs) ys h g = (h.0, all_append xs ys h.1 g)

  pub all_after : (xs ys : List A) → All P (xs ++ ys) → All P ys
  all_after [] ys h = h
  all_after (x ∷ xs) ys h = all_after xs ys h.1

  -- what comes at the end is so if none passes
  pub all_first_or : (test : A → Bool) (f : A → List A) (new xs : List A) → All P xs → (any_of test xs ≡ false → All P new)
      → ((x : A) → test x ≡ true → P x → All P (f x)) → All P (at_first_is test f new xs)
  all_first_or test f new [] h n m = n refl
  all_first_or test f new (x ∷ xs) h n m = go (test x) refl (λ k. all_first_or test f new xs h.1 k m)
    where
      go : (b : Bool) → test x ≡ b → ((any_of test xs ≡ false → All P new) → All P (at_first_is test f new xs)) → All P (cond b (f x ++ xs) (x ∷ at_first_is test f new xs))
      go true e r = all_append (f x) xs (m x e h.0) h.1
      go false e r = (h.0, r (λ q. n (none_either (test x) (any_of test xs) e q)))

  pub all_first : (test : A → Bool) (f : A → List A) (new xs : List A) → All P xs → All P new
      → ((x : A) → test x ≡ true → P x → All P (f x)) → All P (at_first_is test f new xs)
  all_first test f new xs h n m = all_first_or test f new xs h (λ q. n) m

  pub all_if : (b : Bool) (x : A) → P x → All P (cond b (x ∷ []) [])
  all_if true x h = (h, tt)
  all_if false x h = tt

  pub all_with : (s xs : List A) → All P xs → All P (take (length xs) (filled s xs))
  all_with s xs h = rw (entries_with s xs) h

  all_last : (e : A) (t : List A) → P e → All P t → P (last_of e t)
  all_last e [] p h = p
  all_last e (f ∷ t) p h = all_last f t h.0 h.1

  all_front : (e : A) (t : List A) → P e → All P t → All P (front_of e t)
  all_front e [] p h = tt
  all_front e (f ∷ t) p h = (p, all_front f t h.0 h.1)

  pub all_last_first : (t : List A) → All P t → All P (last_first t)
  all_last_first [] h = tt
  all_last_first (e ∷ t) h = (all_last e t h.0 h.1, all_front e t h.0 h.1)

pub all_map : {A B : Type 0} (P : A → Type 0) (Q : B → Type 0) (f : A → B) → ((x : A) → P x → Q (f x)) → (xs : List A) → All P xs → All Q (map f xs)
all_map P Q f g [] h = tt
all_map P Q f g (x ∷ xs) h = (g x h.0, all_map P Q f g xs h.1)

module _ {A : Type 0} (P Q : A → Type 0) where
  pub all_weaken : ((x : A) → P x → Q x) → (xs : List A) → All P xs → All Q xs
  all_weaken f [] h = tt
  all_weaken f (x ∷ xs) h = (f x h.0, all_weaken f xs h.1)

  pub all_both : (xs : List A) → All P xs → All Q xs → All (λ x. P x × Q x) xs
  all_both [] h g = tt
  all_both (x ∷ xs) h g = ((h.0, g.0), all_both xs h.1 g.1)

  pub all_apply : (xs : List A) → All P xs → All (λ x. P x → Q x) xs → All Q xs
  all_apply [] h g = tt
  all_apply (x ∷ xs) h g = (g.0 h.0, all_apply xs h.1 g.1)

  -- of those that are kept
  pub all_kept_with : (test : A → Bool) → ((x : A) → test x ≡ false → P x → Q x) → (xs : List A) → All P xs → All Q (kept test xs)
  all_kept_with test f [] h = tt
  all_kept_with test f (x ∷ xs) h = go (test x) refl (all_kept_with test f xs h.1)
    where
      go : (b : Bool) → test x ≡ b → All Q (kept test xs) → All Q (cond b (kept test xs) (x ∷ kept test xs))
      go true e r = r
      go false e r = (f x e h.0, r)

  -- and of those that are not
  pub all_dropped_with : (test : A → Bool) → ((x : A) → test x ≡ true → P x → Q x) → (xs : List A) → All P xs → All Q (dropped test xs)
  all_dropped_with test f [] h = tt
  all_dropped_with test f (x ∷ xs) h = go (test x) refl (all_dropped_with test f xs h.1)
    where
      go : (b : Bool) → test x ≡ b → All Q (dropped test xs) → All Q (cond b (x ∷ dropped test xs) (dropped test xs))
      go true e r = (f x e h.0, r)
      go false e r = r

module _ {A : Type 0} (P : A → Type 0) where
  pub all_kept : (test : A → Bool) (xs : List A) → All P xs → All P (kept test xs)
  all_kept test xs h = all_kept_with P P test (λ x e p. p) xs h

  pub all_dropped : (test : A → Bool) (xs : List A) → All P xs → All P (dropped test xs)
  all_dropped test xs h = all_dropped_with P P test (λ x e p. p) xs h

-- One is so

module _ {A : Type 0} (P : A → Type 0) where
  pub some_after : (xs ys : List A) → Some P ys → Some P (xs ++ ys)
  some_after [] ys h = h
  some_after (x ∷ xs) ys h = inr (some_after xs ys h)

  pub some_append : (xs ys : List A) → Some P xs → Some P (xs ++ ys)
  some_append [] ys h = absurd h
  some_append (x ∷ xs) ys (inl h) = inl h
  some_append (x ∷ xs) ys (inr h) = inr (some_append xs ys h)

  pub some_first : (test : A → Bool) (f : A → List A) (new xs : List A) → ((x : A) → test x ≡ true → P x → Some P (f x)) → Some P xs
      → Some P (at_first_is test f new xs)
  some_first test f new [] m h = absurd h
  some_first test f new (x ∷ xs) m h = go (test x) refl h (λ g. some_first test f new xs m g)
    where
      go : (b : Bool) → test x ≡ b → P x ⊎ Some P xs → (Some P xs → Some P (at_first_is test f new xs))
          → Some P (cond b (f x ++ xs) (x ∷ at_first_is test f new xs))
      go true e (inl p) ih = some_append (f x) xs (m x e p)
      go true e (inr p) ih = some_after (f x) xs p
      go false e (inl p) ih = inl p
      go false e (inr p) ih = inr (ih p)

  pub some_length : (xs : List A) → Some P xs → 0 < length xs
  some_length [] h = absurd h
  some_length (x ∷ xs) h = omega arith

  pub some_with : (s xs : List A) → Some P xs → Some P (take (length xs) (filled s xs))
  some_with s xs h = rw (entries_with s xs) h

  some_parts : (e : A) (t : List A) → Some P (e ∷ t) → Some P (last_of e t ∷ front_of e t)
  some_parts e [] h = h
  some_parts e (f ∷ t) (inl h) = inr (inl h)
  some_parts e (f ∷ t) (inr h) = go (some_parts f t h)
    where
      go : Some P (last_of f t ∷ front_of f t) → Some P (last_of f t ∷ e ∷ front_of f t)
      go (inl q) = inl q
      go (inr q) = inr (inr q)

  pub some_last_first : (t : List A) → Some P t → Some P (last_first t)
  some_last_first [] h = h
  some_last_first (e ∷ t) h = some_parts e t h

pub some_map : {A B : Type 0} (P : A → Type 0) (Q : B → Type 0) (f : A → B) → ((x : A) → P x → Q (f x)) → (xs : List A) → Some P xs → Some Q (map f xs)
some_map P Q f g [] h = absurd h
some_map P Q f g (x ∷ xs) (inl h) = inl (g x h)
some_map P Q f g (x ∷ xs) (inr h) = inr (some_map P Q f g xs h)

module _ {A : Type 0} (P Q : A → Type 0) where
  pub some_weaken : ((x : A) → P x → Q x) → (xs : List A) → Some P xs → Some Q xs
  some_weaken f [] h = absurd h
  some_weaken f (x ∷ xs) (inl h) = inl (f x h)
  some_weaken f (x ∷ xs) (inr h) = inr (some_weaken f xs h)

  pub some_both : (xs : List A) → Some P xs → All (λ x. P x → Q x) xs → Some (λ x. P x × Q x) xs
  some_both [] h l = absurd h
  some_both (x ∷ xs) (inl h) l = inl (h, l.0 h)
  some_both (x ∷ xs) (inr h) l = inr (some_both xs h l.1)

  pub some_apply : (xs : List A) → Some P xs → All (λ x. P x → Q x) xs → Some Q xs
  some_apply [] h l = absurd h
  some_apply (x ∷ xs) (inl h) l = inl (l.0 h)
  some_apply (x ∷ xs) (inr h) l = inr (some_apply xs h l.1)

  pub some_kept : (test : A → Bool) → ((x : A) → P x → (test x ≡ false) × Q x) → (xs : List A) → Some P xs → Some Q (kept test xs)
  some_kept test m [] h = absurd h
  some_kept test m (x ∷ xs) h = go (test x) refl h (some_kept test m xs)
    where
      go : (b : Bool) → test x ≡ b → P x ⊎ Some P xs → (Some P xs → Some Q (kept test xs)) → Some Q (cond b (kept test xs) (x ∷ kept test xs))
      go true e (inl p) ih = absurd (true≢false (sym e ∙ (m x p).0))
      go true e (inr p) ih = ih p
      go false e (inl p) ih = inl (m x p).1
      go false e (inr p) ih = inr (ih p)

module _ {A : Type 0} (P : A → Type 0) (test : A → Bool) (f : A → List A) (m : (x : A) → test x ≡ true → Some P (f x)) where
  pub some_hit : (new xs : List A) → any_of test xs ≡ true → Some P (at_first_is test f new xs)
  some_hit new [] h = absurd (true≢false (sym h))
  some_hit new (x ∷ xs) h = go (test x) refl h (some_hit new xs)
    where
      go : (b : Bool) → test x ≡ b → cond b true (any_of test xs) ≡ true → (any_of test xs ≡ true → Some P (at_first_is test f new xs))
          → Some P (cond b (f x ++ xs) (x ∷ at_first_is test f new xs))
      go true e g ih = some_append P (f x) xs (m x e)
      go false e g ih = inr (ih g)

  pub some_new : (new xs : List A) → Some P new → Some P (at_first_is test f new xs)
  some_new new [] h = h
  some_new new (x ∷ xs) h = go (test x) refl (some_new new xs h)
    where
      go : (b : Bool) → test x ≡ b → Some P (at_first_is test f new xs) → Some P (cond b (f x ++ xs) (x ∷ at_first_is test f new xs))
      go true e ih = some_append P (f x) xs (m x e)
      go false e ih = inr ih

-- one is so and passes, where none that is so passes
pub some_clash : {A : Type 0} (P : A → Type 0) (test : A → Bool) (xs : List A) → All (λ x. P x → test x ≡ false) xs → Some (λ x. P x × (test x ≡ true)) xs → ⊥
some_clash P test [] l h = h
some_clash P test (x ∷ xs) l (inl h) = true≢false (sym h.1 ∙ l.0 h.0)
some_clash P test (x ∷ xs) l (inr h) = some_clash P test xs l.1 h

-- one is so, and one is seen

module _ {A : Type 0} (seen : A → Bool) where
  pub any_some : (xs : List A) → Some (λ x. seen x ≡ true) xs → any_of seen xs ≡ true
  any_some [] h = absurd h
  any_some (x ∷ xs) (inl h) = either_left (seen x) (any_of seen xs) h
  any_some (x ∷ xs) (inr h) = either_right (seen x) (any_of seen xs) (any_some xs h)

  pub some_any : (xs : List A) → any_of seen xs ≡ true → Some (λ x. seen x ≡ true) xs
  some_any [] h = absurd (true≢false (sym h))
  some_any (x ∷ xs) h = go (seen x) refl h (some_any xs)
    where
      go : (b : Bool) → seen x ≡ b → cond b true (any_of seen xs) ≡ true → (any_of seen xs ≡ true → Some (λ x. seen x ≡ true) xs)
          → Some (λ x. seen x ≡ true) (x ∷ xs)
      go true e g ih = inl e
      go false e g ih = inr (ih g)

-- Members

module _ {A : Type 0} (P : A → Type 0) where
  pub all_member : (x : A) (xs : List A) → Member x xs → All P xs → P x
  all_member x [] m h = absurd m
  all_member x (y ∷ xs) (inl q) h = subst P q h.0
  all_member x (y ∷ xs) (inr m) h = all_member x xs m h.1

pub members : {A : Type 0} (xs : List A) → All (λ x. Member x xs) xs
members [] = tt
members (y ∷ xs) = (inl refl, all_weaken (λ x. Member x xs) (λ x. Member x (y ∷ xs)) (λ x m. inr m) xs (members xs))

module _ {A : Type 0} (x : A) where
  pub member_kept : (test : A → Bool) → test x ≡ false → (xs : List A) → Member x xs → Member x (kept test xs)
  member_kept test h xs m = some_kept (λ y. y ≡ x) (λ y. y ≡ x) test (λ y q. (ap test q ∙ h, q)) xs m

  pub member_first : (test : A → Bool) (f : A → List A) (new : List A) → (test x ≡ true → Member x (f x)) → (xs : List A) → Member x xs → Member x (at_first_is test f new xs)
  member_first test f new own xs m =
      some_first (λ y. y ≡ x) test f new xs (λ y e q. subst (λ (z : A). Member x (f z)) (sym q) (own (sym (ap test q) ∙ e))) m
