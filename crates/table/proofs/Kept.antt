-- Laws of `kept`, for any element type. Assumes nothing.
use Prim.Native.Nat.{ℕ, zero, suc, ◌+◌, ◌<◌}
use lib.ListN.{length, get_or, drop}
use lib.Seq.{drop-append_seam}
use mathlib.Core.Bool.{Bool, true, false, cond, ◌||◌, not, true≢false}
use mathlib.Core.List.{List, [], ◌∷◌, ◌++◌, map}
use mathlib.Core.Path.{◌≡◌, refl, ap, sym, ◌∙◌}
use native.Mathlib.Omega.{arith}
use Rattle.table.specs.Kept.{Interleaved, none, from_first, from_second, InOrder, KeptLaw}
use Rattle.table.specs.Table.{filled, kept, dropped, any_of, fold_over}

module _ {A : Type 0} where
  pub kept_passes : (d : A) (gone : A → Bool) (xs : List A) (i : ℕ) → i < length (kept gone xs) → gone (get_or (kept gone xs) i d) ≡ false
  kept_passes d gone [] i h = absurd (omega arith)
  kept_passes d gone (x ∷ xs) i h = go (gone x) refl (λ j k. kept_passes d gone xs j k) i h
    where
      go : (b : Bool) → gone x ≡ b → ((j : ℕ) → j < length (kept gone xs) → gone (get_or (kept gone xs) j d) ≡ false) → (i : ℕ) → i < length (cond b (kept gone xs) (x ∷ kept gone xs))
          → gone (get_or (cond b (kept gone xs) (x ∷ kept gone xs)) i d) ≡ false
      go true e rest i h = rest i h
      go false e rest zero h = e
      go false e rest (suc i) h = rest i (omega arith)

  pub kept_none_left : (gone : A → Bool) (xs : List A) → any_of gone (kept gone xs) ≡ false
  kept_none_left gone [] = refl
  kept_none_left gone (x ∷ xs) = go (gone x) refl (kept_none_left gone xs)
    where
      go : (b : Bool) → gone x ≡ b → any_of gone (kept gone xs) ≡ false → any_of gone (cond b (kept gone xs) (x ∷ kept gone xs)) ≡ false
      go true e h = h
      go false e h = simp (e, h)

  pub kept_all : (gone : A → Bool) (xs : List A) → any_of gone xs ≡ false → kept gone xs ≡ xs
  kept_all gone [] h = refl
  kept_all gone (x ∷ xs) h = go (gone x) h (kept_all gone xs)
    where
      go : (b : Bool) → cond b true (any_of gone xs) ≡ false → (any_of gone xs ≡ false → kept gone xs ≡ xs)
          → cond b (kept gone xs) (x ∷ kept gone xs) ≡ x ∷ xs
      go true e k = let z : ◌≡◌ {A = ℕ} 0 1 = cc in absurd (omega arith)
      go false e k = ap (λ (l : List A). x ∷ l) (k e)

  pub kept_none : (gone : A → Bool) (xs : List A) → ((x : A) → gone x ≡ true) → kept gone xs ≡ []
  kept_none gone [] h = refl
  kept_none gone (x ∷ xs) h = simp (h x) (kept_none gone xs h)

  pub kept_parts : (gone : A → Bool) (xs : List A) → length (kept gone xs) + length (dropped gone xs) ≡ length xs
  kept_parts gone [] = refl
  kept_parts gone (x ∷ xs) = go (gone x) (kept_parts gone xs)
    where
      go : (b : Bool) → length (kept gone xs) + length (dropped gone xs) ≡ length xs
          → length (cond b (kept gone xs) (x ∷ kept gone xs)) + length (cond b (x ∷ dropped gone xs) (dropped gone xs)) ≡ suc (length xs)
      go true h = omega arith
      go false h = omega arith

  pub kept_append : (gone : A → Bool) (xs ys : List A) → kept gone (xs ++ ys) ≡ kept gone xs ++ kept gone ys
  kept_append gone [] ys = refl
  kept_append gone (x ∷ xs) ys = go (gone x) (kept_append gone xs ys)
    where
      go : (b : Bool) → kept gone (xs ++ ys) ≡ kept gone xs ++ kept gone ys
          → cond b (kept gone (xs ++ ys)) (x ∷ kept gone (xs ++ ys)) ≡ cond b (kept gone xs) (x ∷ kept gone xs) ++ kept gone ys
      go true h = h
      go false h = ap (λ (l : List A). x ∷ l) h

  pub kept_alike : (gone other : A → Bool) (xs : List A) → ((x : A) → gone x ≡ other x) → kept gone xs ≡ kept other xs
  kept_alike gone other [] h = refl
  kept_alike gone other (x ∷ xs) h =
      let k = kept_alike gone other xs h in
      λ i. cond (h x i) (k i) (x ∷ k i)

  pub kept_both : (gone other : A → Bool) (xs : List A) → kept gone (kept other xs) ≡ kept (λ x. gone x || other x) xs
  kept_both gone other [] = refl
  kept_both gone other (x ∷ xs) = go (gone x) (other x) refl (kept_both gone other xs)
    where
      go : (a b : Bool) → gone x ≡ a → kept gone (kept other xs) ≡ kept (λ x. gone x || other x) xs
          → kept gone (cond b (kept other xs) (x ∷ kept other xs))
          ≡ cond (a || b) (kept (λ x. gone x || other x) xs) (x ∷ kept (λ x. gone x || other x) xs)
      go true true e h = h
      go true false e h = simp e h
      go false true e h = h
      go false false e h = simp e (ap (λ (l : List A). x ∷ l) h)

  pub kept_again : (gone : A → Bool) (xs : List A) → kept gone (kept gone xs) ≡ kept gone xs
  kept_again gone xs = kept_both gone gone xs ∙ kept_alike (λ x. gone x || gone x) gone xs (λ x. same (gone x))
    where
      same : (b : Bool) → (b || b) ≡ b
      same true = refl
      same false = refl

  pub kept_either : (gone other : A → Bool) (xs : List A) → kept gone (kept other xs) ≡ kept other (kept gone xs)
  kept_either gone other xs =
      kept_both gone other xs
      ∙ (kept_alike (λ x. gone x || other x) (λ x. other x || gone x) xs (λ x. swapped (gone x) (other x)) ∙ sym (kept_both other gone xs))
    where
      swapped : (a b : Bool) → (a || b) ≡ (b || a)
      swapped true true = refl
      swapped true false = refl
      swapped false true = refl
      swapped false false = refl

  pub dropped_again : (gone : A → Bool) (xs : List A) → dropped gone (kept gone xs) ≡ []
  dropped_again gone [] = refl
  dropped_again gone (x ∷ xs) = go (gone x) refl (dropped_again gone xs)
    where
      go : (b : Bool) → gone x ≡ b → dropped gone (kept gone xs) ≡ [] → dropped gone (cond b (kept gone xs) (x ∷ kept gone xs)) ≡ []
      go true e h = h
      go false e h = simp e h

  pub dropped_apart : (gone other : A → Bool) (xs : List A) → ((x : A) → gone x ≡ true → other x ≡ false) → dropped other (kept gone xs) ≡ dropped other xs
  dropped_apart gone other [] h = refl
  dropped_apart gone other (x ∷ xs) h = go (gone x) refl (dropped_apart gone other xs h)
    where
      go : (b : Bool) → gone x ≡ b → dropped other (kept gone xs) ≡ dropped other xs
          → dropped other (cond b (kept gone xs) (x ∷ kept gone xs)) ≡ dropped other (x ∷ xs)
      go true e k = rw (h x e) k
      go false e k = ap (λ (l : List A). cond (other x) (x ∷ l) l) k

  kept_order : (gone : A → Bool) (xs : List A) → Interleaved (kept gone xs) (dropped gone xs) xs
  kept_order gone [] = none
  kept_order gone (x ∷ xs) = go (gone x) (kept_order gone xs)
    where
      go : (b : Bool) → Interleaved (kept gone xs) (dropped gone xs) xs
          → Interleaved (cond b (kept gone xs) (x ∷ kept gone xs)) (cond b (x ∷ dropped gone xs) (dropped gone xs)) (x ∷ xs)
      go true h = from_second x h
      go false h = from_first x h

  dropped_none_stays : (gone : A → Bool) (xs : List A) → any_of (λ x. not (gone x)) (dropped gone xs) ≡ false
  dropped_none_stays gone [] = refl
  dropped_none_stays gone (x ∷ xs) = go (gone x) refl (dropped_none_stays gone xs)
    where
      go : (b : Bool) → gone x ≡ b → any_of (λ x. not (gone x)) (dropped gone xs) ≡ false
          → any_of (λ x. not (gone x)) (cond b (x ∷ dropped gone xs) (dropped gone xs)) ≡ false
      go true e h = simp (e, h)
      go false e h = h

  pub kept_in_order : (gone : A → Bool) (xs : List A) → InOrder gone xs (kept gone xs) (dropped gone xs)
  kept_in_order gone xs = record { order = kept_order gone xs; stay = kept_none_left gone xs; go = dropped_none_stays gone xs }

  interleaved_only : (gone : A → Bool) {xs ys zs : List A} → Interleaved xs ys zs → any_of gone xs ≡ false → any_of (λ x. not (gone x)) ys ≡ false
      → (xs ≡ kept gone zs) × (ys ≡ dropped gone zs)
  interleaved_only gone none h g = (refl, refl)
  interleaved_only gone (from_first {xs = xs} {ys = ys} {zs = zs} x i) h g = go (gone x) h (λ k. interleaved_only gone i k g)
    where
      go : (b : Bool) → cond b true (any_of gone xs) ≡ false → (any_of gone xs ≡ false → (xs ≡ kept gone zs) × (ys ≡ dropped gone zs))
          → (x ∷ xs ≡ cond b (kept gone zs) (x ∷ kept gone zs)) × (ys ≡ cond b (x ∷ dropped gone zs) (dropped gone zs))
      go true e rest = absurd (true≢false e)
      go false e rest = (ap (λ (l : List A). x ∷ l) (rest e).0, (rest e).1)
  interleaved_only gone (from_second {xs = xs} {ys = ys} {zs = zs} y i) h g = go (gone y) g (λ k. interleaved_only gone i h k)
    where
      go : (b : Bool) → cond (not b) true (any_of (λ x. not (gone x)) ys) ≡ false
          → (any_of (λ x. not (gone x)) ys ≡ false → (xs ≡ kept gone zs) × (ys ≡ dropped gone zs))
          → (xs ≡ cond b (kept gone zs) (y ∷ kept gone zs)) × (y ∷ ys ≡ cond b (y ∷ dropped gone zs) (dropped gone zs))
      go true e rest = ((rest e).0, ap (λ (l : List A). y ∷ l) (rest e).1)
      go false e rest = absurd (true≢false e)

  pub in_order_only : (gone : A → Bool) (before after went : List A) → InOrder gone before after went
      → (after ≡ kept gone before) × (went ≡ dropped gone before)
  in_order_only gone before after went h = interleaved_only gone h.order h.stay h.go

  pub filled_again : (slots xs : List A) → filled (filled slots xs) xs ≡ filled slots xs
  filled_again slots xs = ap (λ (l : List A). xs ++ l) (drop-append_seam xs (drop (length xs) slots))

pub kept_map : {A B : Type 0} (gone : B → Bool) (f : A → B) (xs : List A) → kept gone (map f xs) ≡ map f (kept (λ x. gone (f x)) xs)
kept_map gone f [] = refl
kept_map gone f (x ∷ xs) = go (gone (f x)) (kept_map gone f xs)
  where
    go : (b : Bool) → kept gone (map f xs) ≡ map f (kept (λ x. gone (f x)) xs)
        → cond b (kept gone (map f xs)) (f x ∷ kept gone (map f xs))
        ≡ map f (cond b (kept (λ x. gone (f x)) xs) (x ∷ kept (λ x. gone (f x)) xs))
    go true h = h
    go false h = λ i. f x ∷ h i

pub kept_fold : {A B : Type 0} (step : B → A → B) (gone : A → Bool) (b : B) (xs : List A)
    → fold_over step b (kept gone xs) ≡ fold_over (λ c x. cond (gone x) c (step c x)) b xs
kept_fold step gone b [] = refl
kept_fold {A} {B} step gone b (x ∷ xs) = go (gone x) (λ c. kept_fold step gone c xs)
  where
    go : (t : Bool) → ((c : B) → fold_over step c (kept gone xs) ≡ fold_over (λ (c : B) (y : A). cond (gone y) c (step c y)) c xs) → fold_over step b (cond t (kept gone xs) (x ∷ kept gone xs))
        ≡ fold_over (λ (c : B) (y : A). cond (gone y) c (step c y)) (cond t b (step b x)) xs
    go true rest = rest b
    go false rest = rest (step b x)

pub kept_law : KeptLaw
kept_law =
    record {
      passes = kept_passes;
      none_left = kept_none_left;
      all_stay = kept_all;
      all_go = kept_none;
      parts = kept_parts;
      append = kept_append;
      again = kept_again;
      both = kept_both;
      either = kept_either;
      alike = kept_alike;
      mapped = kept_map;
      folded = kept_fold;
      dropped_again = dropped_again;
      dropped_apart = dropped_apart;
      in_order = kept_in_order;
      only = in_order_only;
      filled_again = filled_again;
    }
