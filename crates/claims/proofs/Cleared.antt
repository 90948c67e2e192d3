-- What is learned has no bit past its length, stands once, and forms an address of its own. Assumes nothing.
use Prim.Native.Nat.{ℕ, zero, suc, ◌≤◌}
use lib.Dec.{ltb, eqb}
use lib.ListN.{length, drop}
use mathlib.Core.Bool.{Bool, true, false, cond, true≢false}
use mathlib.Core.List.{List, [], ◌∷◌}
use mathlib.Core.Path.{◌≡◌, refl, sym, ap, ◌∙◌, subst}
use Rattle.claims.proofs.Backed.{same_cidr_refl, formed_is}
use Rattle.claims.proofs.Keeps.{Keeps, keep_run}
use Rattle.claims.proofs.Lists.{all_of, all_first, all_if, all_kept, all_weaken, entries_with}
use Rattle.claims.proofs.Standing.{same_cidr_lem, steps_prefixes, unskipped, learned_all, leave_all}
use Rattle.claims.specs.Cleared.{Fresh, ClearedTo, NoBitPast, SamePrefix, FormOne, Cleared}
use Rattle.claims.specs.Early.{Host, HostCall, Run}
use Rattle.claims.specs.Lists.{All, Apart}
use Rattle.autoconf.specs.AdvertRules.{options_in, prefix_options, steps2to4}
use Rattle.ndisc.specs.OptionWalk.{past, options_from, options_of}
use Rattle.ndisc.specs.Rfc4861Options.{byte, malformed, prefix_at, option_of}
use Rattle.ndisc.specs.declared.ndiscoption.NdiscOption.TheVariants.{SourceLinkLayerAddr, TargetLinkLayerAddr, PrefixInformation as PrefixOption, RedirectedHeader, Mtu, Unknown}
use Rattle.ndisc.specs.declared.ndiscoption.NdiscOption.{NdiscOption}
use Rattle.ndisc.specs.declared.ndiscoption.PrefixInformation.{PrefixInformation}
use Rattle.slaac.specs.ExpiryRules.{prefix_gone, leave_expired}
use Rattle.slaac.specs.LearnedRules.{prefixes_of, is_skipped, is_prefix, cidr_of, prefix_of, put_over, add_prefix, prefix_ends, expire_prefix, process_prefix_is}
use Rattle.slaac.specs.declared.Prefix.{Prefix}
use Rattle.slaac.specs.declared.Slaac.{Slaac}
use Rattle.table.specs.Table.{if_room, kept, at_first_is, fold_over}
use Rattle.time.specs.declared.Expiry.TheVariants.{At}
use Rattle.time.specs.declared.Instant.{Instant}
use Rattle.wire.proofs.Masks.{masks}
use Rattle.wire.specs.Masks.{bit_at}
use Rattle.wire.specs.Rfc2464.{hardware_at}
use Rattle.wire.specs.Rfc4291.{address_at, mask_of, same_cidr}
use Rattle.wire.specs.Numbers.{u32_at}
use Rattle.wire.specs.declared.ethernet.HardwareAddress.{HardwareAddress}
use Rattle.wire.specs.declared.ipv6.Ipv6Addr.{Ipv6Addr}
use Rattle.wire.specs.declared.ipv6.Ipv6Cidr.{Ipv6Cidr}

-- No two entries

module _ {A : Type 0} (R : A → A → Type 0) where
  apart_kept : (test : A → Bool) (xs : List A) → Apart R xs → Apart R (kept test xs)
  apart_kept test [] h = tt
  apart_kept test (x ∷ xs) h = go (test x) (apart_kept test xs h.1)
    where
      go : (b : Bool) → Apart R (kept test xs) → Apart R (cond b (kept test xs) (x ∷ kept test xs))
      go true r = r
      go false r = (all_kept (λ y. R x y → ⊥) test xs h.0, r)

  apart_weaken : (S : A → A → Type 0) (P : A → Type 0) → ((x y : A) → P x → P y → S x y → R x y) → (xs : List A) → All P xs → Apart R xs → Apart S xs
  apart_weaken S P f [] g h = tt
  apart_weaken S P f (x ∷ xs) g h = (others xs g.1 h.0, apart_weaken S P f xs g.1 h.1)
    where
      others : (ys : List A) → All P ys → All (λ y. R x y → ⊥) ys → All (λ y. S x y → ⊥) ys
      others [] q r = tt
      others (y ∷ ys) q r = ((λ s. r.0 (f x y g.0 q.0 s)), others ys q.1 r.1)

-- The first entry of a prefix is replaced by another of that prefix, or one comes at the end
first_once : (c : Ipv6Cidr) (g : Prefix → Prefix) (new : List Prefix) → ((x : Prefix) → is_prefix c x ≡ true → (g x).cidr ≡ c) → All (λ p. p.cidr ≡ c) new → Apart SamePrefix new
    → (ps : List Prefix) → Apart SamePrefix ps → Apart SamePrefix (at_first_is (is_prefix c) (λ x. g x ∷ []) new ps)
first_once c g new m n s [] h = s
first_once c g new m n s (x ∷ ps) h = go (is_prefix c x) refl (first_once c g new m n s ps h.1)
  where
    -- another prefix than c
    unlike : is_prefix c x ≡ false → (y : Prefix) → y.cidr ≡ c → x.cidr ≡ y.cidr → ⊥
    unlike e y k q = true≢false (sym (ap (λ (d : Ipv6Cidr). same_cidr d c) (q ∙ k) ∙ same_cidr_refl c) ∙ e)

    go : (b : Bool) → is_prefix c x ≡ b → Apart SamePrefix (at_first_is (is_prefix c) (λ y. g y ∷ []) new ps)
        → Apart SamePrefix (cond b (g x ∷ ps) (x ∷ at_first_is (is_prefix c) (λ y. g y ∷ []) new ps))
    go true e r =
        let same : (g x).cidr ≡ x.cidr = m x e ∙ sym (same_cidr_lem x.cidr c e) in
        (all_weaken (λ y. x.cidr ≡ y.cidr → ⊥) (λ y. (g x).cidr ≡ y.cidr → ⊥) (λ y k q. k (sym same ∙ q)) ps h.0, h.1)
    go false e r = (
      all_first (λ y. x.cidr ≡ y.cidr → ⊥) (is_prefix c) (λ y. g y ∷ []) new ps h.0 (all_weaken (λ p. p.cidr ≡ c) (λ y. x.cidr ≡ y.cidr → ⊥) (unlike e) new n)
          (λ y t k. (unlike e (g y) (m y t), tt)),
      r,
    )

-- The table

abbrev Once : Slaac → Type 0
Once s = Apart SamePrefix (prefixes_of s)

one_once : (b : Bool) (p : Prefix) → Apart SamePrefix (cond b (p ∷ []) [])
one_once true p = (tt, tt)
one_once false p = tt

add_once : (s : Slaac) (p : Prefix) → Once s → Once (add_prefix s p)
unfolding add_prefix
add_once s p h =
    subst (Apart SamePrefix) (sym (entries_with s.prefixes (at_first_is (is_prefix p.cidr) (put_over p) (if_room 4 (prefixes_of s) p) (prefixes_of s))))
    (first_once p.cidr (λ x. p) (if_room 4 (prefixes_of s) p) (λ x e. refl) (all_if (λ q. q.cidr ≡ p.cidr) (ltb (length (prefixes_of s)) 4) p refl)
    (one_once (ltb (length (prefixes_of s)) 4) p) (prefixes_of s) h)

abbrev pub ended : Instant → Prefix → Prefix
ended now e = record { cidr = e.cidr; preferred_until = At now; valid_until = At now }

expire_once : (s : Slaac) (c : Ipv6Cidr) (now : Instant) → Once s → Once (expire_prefix s c now)
unfolding expire_prefix
expire_once s c now h =
    subst (Apart SamePrefix) (sym (entries_with s.prefixes (at_first_is (is_prefix c) (prefix_ends now) [] (prefixes_of s))))
    (first_once c (ended now) [] (λ x e. same_cidr_lem x.cidr c e) tt tt (prefixes_of s) h)

process_once : (now : Instant) (s : Slaac) (o : PrefixInformation) → Once s → Once (process_prefix_is now s o)
unfolding process_prefix_is
process_once now s o h = go (is_skipped o) (ltb 0 o.valid_lifetime)
  where
    go : (x y : Bool) → Once (cond {A = Slaac} x s (cond {A = Slaac} y (add_prefix s (prefix_of o now)) (expire_prefix s (cidr_of o) now)))
    go true y = h
    go false true = add_once s (prefix_of o now) h
    go false false = expire_once s (cidr_of o) now h

options_once : (now : Instant) (os : List PrefixInformation) (s : Slaac) → Once s → Once (fold_over (process_prefix_is now) s os)
options_once now [] s h = h
options_once now (o ∷ os) s h = options_once now os (process_prefix_is now s o) (process_once now s o h)

learned_once : (s : Slaac) (source : Ipv6Addr) (msg : List ℕ) (now : Instant) → Once s → Once (steps2to4 s source msg now)
learned_once s source msg now h =
    subst (Apart SamePrefix) (sym (steps_prefixes s source msg now)) (options_once now (prefix_options (options_in msg)) s h)

leave_once : (now : Instant) (s : Slaac) → Once s → Once (leave_expired now s)
unfolding leave_expired
leave_once now s h =
    subst (Apart SamePrefix) (sym (entries_with s.prefixes (kept (prefix_gone now) (prefixes_of s)))) (apart_kept SamePrefix (prefix_gone now) (prefixes_of s) h)

-- What is read is cleared

abbrev pub Masked : PrefixInformation → Type 0
Masked o = mask_of o.prefix_len o.prefix ≡ o.prefix

option_masked : (s : List ℕ) (os : List NdiscOption) → All Masked (prefix_options os) → All Masked (prefix_options (option_of s ∷ os))
option_masked s os h = go (eqb (byte s 0) 1) (eqb (byte s 0) 2) (eqb (byte s 0) 3) (eqb (byte s 0) 4) (eqb (byte s 0) 5)
  where
    go : (a b c d e : Bool)
        → All Masked (prefix_options (cond a (SourceLinkLayerAddr (hardware_at s 2)) (cond b (TargetLinkLayerAddr (hardware_at s 2))
        (cond c (PrefixOption (prefix_at s)) (cond d RedirectedHeader (cond e (Mtu (u32_at s 4)) (Unknown (byte s 0)))))) ∷ os))
    go true b c d e = h
    go false true c d e = h
    go false false true d e = (masks.twice (byte s 2) (address_at s 16), h)
    go false false false true e = h
    go false false false false true = h
    go false false false false false = h

options_masked : (n : ℕ) (msg : List ℕ) (at : ℕ) → All Masked (prefix_options (options_from n msg at))
options_masked zero msg at = tt
options_masked (suc n) msg at = go (ltb at (length msg)) (malformed (drop at msg)) (options_masked n msg (past msg at))
  where
    go : (x y : Bool) → All Masked (prefix_options (options_from n msg (past msg at)))
        → All Masked (prefix_options (cond x (cond y [] (option_of (drop at msg) ∷ options_from n msg (past msg at))) []))
    go true true h = tt
    go true false h = option_masked (drop at msg) (options_from n msg (past msg at)) h
    go false y h = tt

pub message_masked : (msg : List ℕ) → All Masked (prefix_options (options_in msg))
unfolding options_of
message_masked msg = options_masked (length msg) msg 16

-- and so is what is learned of it
abbrev pub Clear : Prefix → Type 0
Clear p = ClearedTo p.cidr

pub taken_clear : (now : Instant) (o : PrefixInformation) → Masked o → is_skipped o ≡ false → Clear (prefix_of o now)
taken_clear now o m e = ((unskipped o e).0, m)

pub ended_clear : (now : Instant) (o : PrefixInformation) → o.valid_lifetime ≤ 0 → Clear (prefix_of o now) → (x : Prefix) → is_prefix (cidr_of o) x ≡ true
    → All Clear (prefix_ends now x)
ended_clear now o z k x e = (subst ClearedTo (sym (same_cidr_lem x.cidr (cidr_of o) e)) k, tt)

learned_clear : (s : Slaac) (source : Ipv6Addr) (msg : List ℕ) (now : Instant) → All Clear (prefixes_of s) → All Clear (prefixes_of (steps2to4 s source msg now))
learned_clear s source msg now h =
    learned_all Clear ended_clear s source msg now h
    (all_weaken Masked (λ o. is_skipped o ≡ false → Clear (prefix_of o now)) (λ o m e. taken_clear now o m e) (prefix_options (options_in msg)) (message_masked msg))

-- Whatever is called

unfoldable pub Good : List Prefix → Type 0
Good ps = All Clear ps × Apart SamePrefix ps

pub keeps : (i : ℕ) (hw : HardwareAddress) → Keeps i hw (λ c. Unit {0}) (λ s t r. Good (prefixes_of s))
unfolding Good
keeps i hw =
    record {
      discovery = λ s t r d h. h;
      learns = λ s t r source msg now a k h. (learned_clear s source msg now h.0, learned_once s source msg now h.1);
      syncs = λ s t r now a k on h. (leave_all Clear now s h.0, leave_once now s h.1);
      begins = λ s t r e h. (tt, tt);
      adds = λ s t r c a k p h. h;
      routes = λ s t r j c via a k p h. h;
      clears = λ s t r a h. (tt, tt);
      syncs_there = λ s t r j now u n h. h;
      clears_there = λ s t r j n h. h;
    }

good : (i : ℕ) (hw : HardwareAddress) (x y : Host) (cs : List HostCall) → Run i hw x cs y → Fresh x → Good (prefixes_of y.slaac)
unfolding Good
good i hw x y cs run (on, e) =
    keep_run (λ c. Unit {0}) (λ s t r. Good (prefixes_of s)) (keeps i hw) run (all_of (λ c. Unit {0}) (λ c. tt) cs)
    (subst (λ (s : Slaac). Good (prefixes_of s)) (sym e) (tt, tt))

-- Two entries that form one address are of one prefix

second_half : (c : Ipv6Cidr) → ClearedTo c → c.prefix_len ≡ 64 → c.address.lo ≡ 0
second_half c (h, m) e =
    sym (ap (λ (a : Ipv6Addr). a.lo) m) ∙ ap (λ (n : ℕ). (mask_of n c.address).lo) e ∙ ap (λ (a : Ipv6Addr). a.lo) (masks.half c.address)

pub one_prefix : (hw : HardwareAddress) (p q : Prefix) → Clear p → Clear q → FormOne hw p q → SamePrefix p q
one_prefix hw p q u v (a, f, g) =
    let x = formed_is hw p.cidr a f in
    let y = formed_is hw q.cidr a g in
    let upper : p.cidr.address.hi ≡ q.cidr.address.hi = ap (λ (d : Ipv6Cidr). d.address.hi) (x.1 ∙ sym y.1) in
    let lower : p.cidr.address.lo ≡ q.cidr.address.lo = second_half p.cidr u x.0 ∙ sym (second_half q.cidr v y.0) in
    let len : p.cidr.prefix_len ≡ q.cidr.prefix_len = x.0 ∙ sym y.0 in
    λ i. record { address = record { hi = upper i; lo = lower i }; prefix_len = len i }

pub one_address : (hw : HardwareAddress) (ps : List Prefix) → Good ps → Apart (FormOne hw) ps
unfolding Good
one_address hw ps h = apart_weaken SamePrefix (FormOne hw) Clear (one_prefix hw) ps h.0 h.1

no_bit : (p : Prefix) → Clear p → NoBitPast p.cidr
no_bit p (h, m) i l b = ap (λ (a : Ipv6Addr). bit_at a i) (sym m) ∙ masks.clears p.cidr.prefix_len p.cidr.address i b l

pub cleared : Cleared
unfolding Good
cleared =
    record {
      masks = masks;
      read = λ s i l b. masks.clears (byte s 2) (address_at s 16) i b l;
      kept = λ s i l b. masks.stays (byte s 2) (address_at s 16) i b l;
      above = λ s h. masks.all (byte s 2) (address_at s 16) h;
      entries = λ i hw x y cs run f. (good i hw x y cs run f).0;
      no_bits = λ i hw x y cs run f. all_weaken Clear (λ p. NoBitPast p.cidr) no_bit (prefixes_of y.slaac) (good i hw x y cs run f).0;
      once = λ i hw x y cs run f. (good i hw x y cs run f).1;
      one_address = λ i hw other x y cs run f. one_address other (prefixes_of y.slaac) (good i hw x y cs run f);
    }
