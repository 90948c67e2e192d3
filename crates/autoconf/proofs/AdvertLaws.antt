-- Laws of the advertisement: its second pass.
use Prim.Native.Nat.{ℕ, suc, ◌-◌}
use lib.ListN.{length, drop}
use mathlib.Core.List.{List, [], ◌∷◌}
use mathlib.Core.Path.{◌≡◌, refl, ap, sym, ◌∙◌}
use native.Mathlib.Omega.{arith}
use Rattle.std.specs.Prelude.{Option, Some, None}
use Rattle.slaac.specs.LearnedRules.{process_prefix_is}
use Rattle.slaac.specs.declared.Slaac.{Slaac}
use Rattle.ndisc.proofs.Walks.{end_goes, malformed_goes}
use Rattle.ndisc.specs.OptionWalk.{next_of, options_of}
use Rattle.ndisc.specs.declared.ndiscoption.NdiscOption.TheVariants.{SourceLinkLayerAddr, TargetLinkLayerAddr, PrefixInformation as Prefix, RedirectedHeader, Mtu, Unknown}
use Rattle.ndisc.specs.declared.ndiscoption.NdiscOption.{NdiscOption}
use Rattle.ndisc.specs.declared.ndiscoption.PrefixInformation.{PrefixInformation}
use Rattle.ndisc.specs.declared.ndiscoption.Next.TheVariants.{End, Malformed as Malformed', Option as AnOption}
use Rattle.ndisc.specs.declared.ndiscoption.Next.{Next}
use Rattle.autoconf.specs.Answers.{lladdr_number, lladdr_given}
use Rattle.autoconf.specs.AdvertRules.{step2, source_options, last_in, last_source, last_alone, TaughtTo}
use Rattle.time.specs.declared.Instant.{Instant}
use Rattle.wire.specs.declared.ethernet.HardwareAddress.{HardwareAddress}

-- The second pass

-- what one option teaches
abbrev pub learn_option : Instant → Slaac → NdiscOption → Slaac
learn_option now s (Prefix p) = process_prefix_is now s p
learn_option now s (SourceLinkLayerAddr h) = s
learn_option now s (TargetLinkLayerAddr h) = s
learn_option now s RedirectedHeader = s
learn_option now s (Mtu n) = s
learn_option now s (Unknown n) = s

learn_one : (now : Instant) (s : Slaac) (o : NdiscOption) (os : List NdiscOption) → step2 now s (o ∷ os) ≡ step2 now (learn_option now s o) os
unfolding step2
learn_one now s (Prefix p) os = refl
learn_one now s (SourceLinkLayerAddr h) os = refl
learn_one now s (TargetLinkLayerAddr h) os = refl
learn_one now s RedirectedHeader os = refl
learn_one now s (Mtu n) os = refl
learn_one now s (Unknown n) os = refl

-- what one option leaves of the last source
abbrev pub counts : Option HardwareAddress → NdiscOption → Option HardwareAddress
counts l (SourceLinkLayerAddr h) = Some h
counts l (TargetLinkLayerAddr h) = l
counts l (Prefix p) = l
counts l RedirectedHeader = l
counts l (Mtu n) = l
counts l (Unknown n) = l

abbrev last_from : Option HardwareAddress → List NdiscOption → Option HardwareAddress
last_from l os = last_in l (source_options os)

count_one : (l : Option HardwareAddress) (o : NdiscOption) (os : List NdiscOption) → last_from l (o ∷ os) ≡ last_from (counts l o) os
count_one l (SourceLinkLayerAddr h) os = refl
count_one l (TargetLinkLayerAddr h) os = refl
count_one l (Prefix p) os = refl
count_one l RedirectedHeader os = refl
count_one l (Mtu n) os = refl
count_one l (Unknown n) os = refl

no_more : (now : Instant) (s : Slaac) → s ≡ step2 now s []
unfolding step2
no_more now s = refl

-- the last one alone
last_given : (hs : List HardwareAddress) → lladdr_given (last_in None hs) ≡ last_alone hs
last_given [] = refl
last_given (h ∷ hs) = let e : length hs ≡ suc (length hs) - 1 = omega arith in from h hs ∙ ap (λ (n : ℕ). drop n (h ∷ hs)) e
  where
    from : (h : HardwareAddress) (hs : List HardwareAddress) → lladdr_given (last_in (Some h) hs) ≡ drop (length hs) (h ∷ hs)
    from h [] = refl
    from h (g ∷ hs) = from g hs

source_given : (os : List NdiscOption) → lladdr_given (last_source os) ≡ last_alone (source_options os)
unfolding last_source
source_given os = last_given (source_options os)

no_refusal : (l : Option HardwareAddress) → lladdr_number l ≡ 0
no_refusal None = refl
no_refusal (Some h) = refl

-- the options from `at` on are still to be learned
pub record Teaching (now : Instant) (msg : List ℕ) (s₀ s : Slaac) (l : Option HardwareAddress) (at : ℕ) : Type 0 where
  pub prefixes : step2 now s (options_of msg at) ≡ step2 now s₀ (options_of msg 16)
  pub source : last_from l (options_of msg at) ≡ last_source (options_of msg 16)

pub teaching : (now : Instant) (msg : List ℕ) (s : Slaac) → Teaching now msg s s None 16
unfolding last_source
teaching now msg s = record { prefixes = refl; source = refl }

module _ {now : Instant} {msg : List ℕ} {s₀ s : Slaac} {l : Option HardwareAddress} {at : ℕ} (inv : Teaching now msg s₀ s l at) where
  pub teach_on : (o : NdiscOption) (next : ℕ) (s' : Slaac) (l' : Option HardwareAddress) → options_of msg at ≡ o ∷ options_of msg next
      → s' ≡ learn_option now s o → l' ≡ counts l o → Teaching now msg s₀ s' l' next
  teach_on o next s' l' e f g =
      let os : List NdiscOption = options_of msg next in
      record {
        prefixes =
            ap (λ (x : Slaac). step2 now x os) f
            ∙ (sym (learn_one now s o os) ∙ (ap (λ (z : List NdiscOption). step2 now s z) (sym e) ∙ inv.prefixes));
        source =
            ap (λ (x : Option HardwareAddress). last_from x os) g
            ∙ (sym (count_one l o os) ∙ (ap (λ (z : List NdiscOption). last_from l z) (sym e) ∙ inv.source));
      }

  -- the same, for an option that was taken apart
  pub teach_by : (o k : NdiscOption) (next : ℕ) (s' : Slaac) (l' : Option HardwareAddress) → options_of msg at ≡ o ∷ options_of msg next → o ≡ k
      → s' ≡ learn_option now s k → l' ≡ counts l k → Teaching now msg s₀ s' l' next
  teach_by o k next s' l' e q f g =
      teach_on o next s' l' e (f ∙ ap (λ (x : NdiscOption). learn_option now s x) (sym q)) (g ∙ ap (λ (x : NdiscOption). counts l x) (sym q))

  -- and for one of the other kinds
  pub teach_none : (o : NdiscOption) (next : ℕ) → options_of msg at ≡ o ∷ options_of msg next → ((h : HardwareAddress) → o ≡ SourceLinkLayerAddr h → ⊥)
      → ((p : PrefixInformation) → o ≡ Prefix p → ⊥) → Teaching now msg s₀ s l next
  teach_none o next e f g = teach_on o next s l e (no_prefix o g) (no_source o f)
    where
      no_prefix : (k : NdiscOption) → ((p : PrefixInformation) → k ≡ Prefix p → ⊥) → s ≡ learn_option now s k
      no_prefix (Prefix p) u = absurd (u p refl)
      no_prefix (SourceLinkLayerAddr h) u = refl
      no_prefix (TargetLinkLayerAddr h) u = refl
      no_prefix RedirectedHeader u = refl
      no_prefix (Mtu n) u = refl
      no_prefix (Unknown n) u = refl

      no_source : (k : NdiscOption) → ((h : HardwareAddress) → k ≡ SourceLinkLayerAddr h → ⊥) → l ≡ counts l k
      no_source (SourceLinkLayerAddr h) u = absurd (u h refl)
      no_source (TargetLinkLayerAddr h) u = refl
      no_source (Prefix p) u = refl
      no_source RedirectedHeader u = refl
      no_source (Mtu n) u = refl
      no_source (Unknown n) u = refl

  pub taught : options_of msg at ≡ [] → TaughtTo now s₀ (options_of msg 16) (record { slaac = s; lladdr = l })
  taught e =
      let a : s ≡ step2 now s₀ (options_of msg 16) = no_more now s ∙ (ap (λ (z : List NdiscOption). step2 now s z) (sym e) ∙ inv.prefixes) in
      let b : l ≡ last_source (options_of msg 16) = ap (λ (z : List NdiscOption). last_from l z) (sym e) ∙ inv.source in
      record { is = λ i. record { slaac = a i; lladdr = b i }; number = no_refusal l; gives = ap lladdr_given b ∙ source_given (options_of msg 16) }

-- the pass ends where no option stands
pub stops : (msg : List ℕ) (at : ℕ) (r : Next) → r ≡ next_of msg at → ((o : NdiscOption) (n : ℕ) → r ≡ AnOption o n → ⊥) → options_of msg at ≡ []
stops msg at End e h = (end_goes msg at (sym e)).1
stops msg at Malformed' e h = (malformed_goes msg at (sym e)).1
stops msg at (AnOption o n) e h = absurd (h o n refl)
