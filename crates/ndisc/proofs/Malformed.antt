-- What a well-formed option has. Assumes nothing.
use Prim.Native.Nat.{ℕ, ◌*◌, ◌≤◌}
use borrow.Author.Tests.{ltb-false, eqb-false}
use lib.Dec.{ltb, eqb}
use lib.ListN.{length}
use mathlib.Core.Bool.{Bool, true, false, cond, ◌||◌}
use mathlib.Core.List.{List}
use mathlib.Core.Path.{◌≡◌, refl}
use native.Mathlib.Omega.{arith}
use Rattle.ndisc.specs.Rfc4861Options.{byte, malformed, units_of, option_of, checked_of}
use Rattle.ndisc.specs.declared.ndiscoption.Checked.TheVariants.{Refused, Well}
use Rattle.ndisc.specs.declared.ndiscoption.NdiscOption.{NdiscOption}
use Rattle.wire.specs.declared.error.Refusal.TheVariants.{Malformed}
use Rattle.wire.specs.declared.error.Refusal.{Refusal}

or_parts : (p q : Bool) → (p || q) ≡ false → (p ≡ false) × (q ≡ false)
or_parts true q e = let z : ◌≡◌ {A = ℕ} 0 1 = cc in absurd (omega arith)
or_parts false q e = (refl, e)

-- what a well-formed option has
pub record Has (s : List ℕ) : Type 0 where
  pub is : units_of s ≡ byte s 1
  pub some : 1 ≤ units_of s
  pub eight : 8 ≤ length s
  pub whole : 8 * units_of s ≤ length s

pub has : (s : List ℕ) → malformed s ≡ false → Has s
has s e =
    let a = or_parts (ltb (length s) 8) _ e in
    let b = or_parts (eqb (byte s 1) 0) _ a.1 in
    let c = or_parts (ltb (length s) (8 * byte s 1)) _ b.1 in
    let u : units_of s ≡ byte s 1 = simp e in
    let n = eqb-false (byte s 1) 0 b.0 in
    record {
      is = u;
      some = rw u (omega arith);
      eight = ltb-false (length s) 8 a.0;
      whole = rw u (ltb-false (length s) (8 * byte s 1) c.0);
    }

-- what the check of an option says: a caller goes by cases on it
refused : (m : Bool) (o : NdiscOption) (n : ℕ) (why : Refusal) → cond m (Refused Malformed) (Well o n) ≡ Refused why → m ≡ true
refused true o n why e = refl
refused false o n why e = let z : ◌≡◌ {A = ℕ} 0 1 = cc in absurd (omega arith)

pub refused_means : (s : List ℕ) (why : Refusal) → checked_of s ≡ Refused why → malformed s ≡ true
refused_means s why e = refused (malformed s) (option_of s) (units_of s) why e

found : (m : Bool) (o o' : NdiscOption) (n n' : ℕ) → cond m (Refused Malformed) (Well o n) ≡ Well o' n' → (m ≡ false) × (o ≡ o') × (n ≡ n')
found true o o' n n' e = let z : ◌≡◌ {A = ℕ} 0 1 = cc in absurd (omega arith)
found false o o' n n' e = (refl, cc, cc)

pub record Found (s : List ℕ) (o : NdiscOption) (n : ℕ) : Type 0 where
  pub well : malformed s ≡ false
  pub option : option_of s ≡ o
  pub units : units_of s ≡ n
  pub some : 1 ≤ n
  pub whole : 8 * n ≤ length s

pub well_means : (s : List ℕ) (o : NdiscOption) (n : ℕ) → checked_of s ≡ Well o n → Found s o n
well_means s o n e =
    let f = found (malformed s) (option_of s) o (units_of s) n e in
    let u = f.2 in
    let h = has s f.0 in
    record { well = f.0; option = f.1; units = u; some = rw u at h.some; whole = rw u at h.whole }
