-- Tables: a list of slots, of which the first `len` are the entries. Any element type.
use Rattle.std.specs.Prelude.{ℕ, zero, suc, ◌+◌, Bool, true, false, cond, List, [], ◌∷◌, ◌++◌, take, drop, length, ltb}

-- the slots with these entries in front: past them they hold what they held
abbrev pub filled : {A : Type 0} → List A → List A → List A
filled s xs = xs ++ drop (length xs) s

-- one more entry, if there is room
abbrev pub if_room : {A : Type 0} → ℕ → List A → A → List A
if_room size es x = cond (ltb (length es) size) (x ∷ []) []

-- the last entry moves to the front
abbrev pub last_of : {A : Type 0} → A → List A → A
last_of e [] = e
last_of e (f ∷ t) = last_of f t

abbrev pub front_of : {A : Type 0} → A → List A → List A
front_of e [] = []
front_of e (f ∷ t) = e ∷ front_of f t

abbrev pub last_first : {A : Type 0} → List A → List A
last_first [] = []
last_first (e ∷ t) = last_of e t ∷ front_of e t

-- the entry at place i goes, and the last entry moves there
abbrev pub swap_remove : {A : Type 0} → ℕ → List A → List A
swap_remove i [] = []
swap_remove zero (e ∷ t) = last_first t
swap_remove (suc i) (e ∷ t) = e ∷ swap_remove i t

-- later entries move down
abbrev pub without : {A : Type 0} → List A → ℕ → List A
without es i = take i es ++ drop (i + 1) es

-- the entries that are not dropped, in order
abbrev pub kept : {A : Type 0} → (A → Bool) → List A → List A
kept gone [] = []
kept gone (x ∷ xs) = cond (gone x) (kept gone xs) (x ∷ kept gone xs)

-- the entries that are, in order
abbrev pub dropped : {A : Type 0} → (A → Bool) → List A → List A
dropped gone [] = []
dropped gone (x ∷ xs) = cond (gone x) (x ∷ dropped gone xs) (dropped gone xs)

-- the first place at or after n whose entry passes, or the number of entries
abbrev pub first_from : {A : Type 0} → (A → Bool) → ℕ → List A → ℕ
first_from test n [] = 0
first_from test zero (x ∷ xs) = cond (test x) 0 (suc (first_from test zero xs))
first_from test (suc n) (x ∷ xs) = suc (first_from test n xs)

-- the first entry that passes becomes `f` of it, none or one entry; where none passes, `new` comes at the end
abbrev pub at_first_is : {A : Type 0} → (A → Bool) → (A → List A) → List A → List A → List A
at_first_is test f new [] = new
at_first_is test f new (x ∷ xs) = cond (test x) (f x ++ xs) (x ∷ at_first_is test f new xs)

abbrev pub any_of : {A : Type 0} → (A → Bool) → List A → Bool
any_of test [] = false
any_of test (x ∷ xs) = cond (test x) true (any_of test xs)

-- `f` of the first entry that passes
abbrev pub first_of : {A B : Type 0} → (A → Bool) → (A → B) → B → List A → B
first_of test f none [] = none
first_of test f none (x ∷ xs) = cond (test x) (f x) (first_of test f none xs)

-- entry by entry, in order
abbrev pub fold_over : {A B : Type 0} → (B → A → B) → B → List A → B
fold_over step b [] = b
fold_over step b (x ∷ xs) = fold_over step (step b x) xs
