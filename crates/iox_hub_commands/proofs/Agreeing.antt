-- What is kept of factories and domains while others come and go.
use Rattle.std.proofs.Common.{◌≡◌, ◌∙◌, ◌⊎◌, ◌++◌, ℕ, Bool, true, false, cond, List, [], ◌∷◌, Some, refl, sym, ap, subst, inl, inr}
use Rattle.std.specs.BTreeMap.{insert_entry, is_at}
use Rattle.std.specs.List.{AllByRecursion}
use Rattle.std.specs.Map.{lookup, set_value, remove_entry}
use Rattle.std.specs.Ordering.{nat_cmp, is_eq, match_ordering}
use Rattle.std.specs.declared.cmp.Ordering.{Ordering}
use Rattle.std.specs.declared.cmp.Ordering.TheVariants.{Less, Equal, Greater}
use Rattle.iox_delivery.specs.DescribeSettings.Agreement.{Agreement}
use Rattle.iox_delivery.specs.DescribeSettings.declared.static_config.publish_subscribe.StaticConfig.{StaticConfig}
use Rattle.iox_hub_base.specs.Numbered.{is_number}
use Rattle.iox_hub_base.specs.declared.presence.Presence.{Presence}
use Rattle.iox_hub_commands.specs.ServicesTables.{FactoryTable, parts_of}
use Rattle.iox_hub_commands.specs.declared.services.made.MadeFactory.{MadeFactory}
use Rattle.iox_negotiate.proofs.Maps.{Among, among-all}
use Rattle.iox_hub_commands.specs.Agreements.{agreed_in, HoldsOfDomains, HoldsOfFactories}

-- what holds of each one among them
pub all_among : {E : Type 0} (P : E → Type 0) (es : List E) → ((e : E) → Among e es → P e) → AllByRecursion P es
all_among P [] holds = tt
all_among P (e ∷ es) holds = (holds e (inl refl), all_among P es (λ other in_it. holds other (inr in_it)))

module _ {K X : Type 0} (test : K → Bool) where
  removed_there : (e other : K × X) (es left : List (K × X)) (b : Bool) → (Among other left → Among other es)
      → Among other (cond b es (e ∷ left)) → Among other (e ∷ es)
  removed_there e other es left true rest in_it = inr in_it
  removed_there e other es left false rest (inl is) = inl is
  removed_there e other es left false rest (inr later) = inr (rest later)

  -- what is left was there
  pub among_left : (es : List (K × X)) (other : K × X) → Among other (remove_entry test es) → Among other es
  among_left [] other in_it = in_it
  among_left (e ∷ es) other in_it = removed_there e other es (remove_entry test es) (test e.0) (among_left es other) in_it

-- what is among a list with one more at its end
pub among_more : {E : Type 0} (es : List E) (more other : E) → Among other (es ++ more ∷ []) → Among other es ⊎ (more ≡ other)
among_more [] more other (inl is) = inr is
among_more [] more other (inr later) = absurd later
among_more (e ∷ es) more other (inl is) = inl (inl is)
among_more (e ∷ es) more other (inr later) = deeper (among_more es more other later)
  where
    deeper : Among other es ⊎ (more ≡ other) → Among other (e ∷ es) ⊎ (more ≡ other)
    deeper (inl there) = inl (inr there)
    deeper (inr is) = inr is

-- ---- factories

-- each factory was there before
abbrev pub KeepsFactories : FactoryTable → FactoryTable → Type 0
KeepsFactories old new = (factory : ℕ × MadeFactory) → Among factory new.entries → Among factory old.entries

pub same_factories : (old new : FactoryTable) → new.entries ≡ old.entries → KeepsFactories old new
same_factories old new same factory in_it = subst (λ es. Among factory es) same in_it

pub factories_on : (P : ℕ → Agreement → Type 0) (old new : FactoryTable) → KeepsFactories old new → HoldsOfFactories P old
    → HoldsOfFactories P new
factories_on P old new keeps holds =
    all_among (λ factory. P (parts_of factory.1).0.service.number (parts_of factory.1).0.service.description) new.entries
    (λ factory in_it. among-all (λ one. P (parts_of one.1).0.service.number (parts_of one.1).0.service.description) old.entries factory
    (keeps factory in_it) holds)

-- ---- domains

module _ {T U B D : Type 0} where
  -- a service of this number has a domain that is for the same settings
  abbrev pub HadDomain : ℕ → Presence T U B D → List (ℕ × Presence T U B D) → Type 0
  HadDomain number presence domains = (before : Presence T U B D) × Among (number, before) domains × (agreed_in presence ≡ agreed_in before)

  -- each domain was there before, for the same settings
  abbrev pub KeepsAgreed : List (ℕ × Presence T U B D) → List (ℕ × Presence T U B D) → Type 0
  KeepsAgreed old new = (number : ℕ) (presence : Presence T U B D) → Among (number, presence) new → HadDomain number presence old

  pub same_agreed : (old new : List (ℕ × Presence T U B D)) → new ≡ old → KeepsAgreed old new
  same_agreed old new same number presence in_it = (presence, subst (λ es. Among (number, presence) es) same in_it, refl)

  pub kept_twice : (old mid new : List (ℕ × Presence T U B D)) → KeepsAgreed old mid → KeepsAgreed mid new → KeepsAgreed old new
  kept_twice old mid new first second number presence in_it =
      let (between, there, same) = second number presence in_it in
      let (before, where_it_was, was) = first number between there in
      (before, where_it_was, same ∙ was)

  pub domains_on : (P : ℕ → StaticConfig → Type 0) (old new : List (ℕ × Presence T U B D)) → KeepsAgreed old new → HoldsOfDomains P old
      → HoldsOfDomains P new
  domains_on P old new keeps holds = all_among (λ service. P service.0 (agreed_in service.1)) new one
    where
      one : (service : ℕ × Presence T U B D) → Among service new → P service.0 (agreed_in service.1)
      one service in_it =
          let (before, there, same) = keeps service.0 service.1 in_it in
          subst (λ config. P service.0 config) (sym same)
          (among-all (λ other. P other.0 (agreed_in other.1)) old (service.0, before) there holds)

  -- one of them goes
  pub gone_agreed : (number : ℕ) (domains : List (ℕ × Presence T U B D))
      → KeepsAgreed domains (remove_entry (is_at (nat_cmp number)) domains)
  gone_agreed number domains other presence in_it = (presence, among_left (is_at (nat_cmp number)) domains (other, presence) in_it, refl)

  key_is : (one other : ℕ × Presence T U B D) → one ≡ other → one.0 ≡ other.0
  key_is one other is = ap (λ service. service.0) is

  presence_is : (one other : ℕ × Presence T U B D) → one ≡ other → one.1 ≡ other.1
  presence_is one other is = ap (λ service. service.1) is

  found_is : (one other : Presence T U B D) → Some one ≡ Some other → one ≡ other
  found_is one other is = cc

  set_there : (test : ℕ → Bool) (e : ℕ × Presence T U B D) (es : List (ℕ × Presence T U B D)) (presence found : Presence T U B D)
      (b : Bool) → cond b (Some e.1) (lookup test es) ≡ Some found → agreed_in presence ≡ agreed_in found
      → (lookup test es ≡ Some found → KeepsAgreed es (set_value test es presence))
      → KeepsAgreed (e ∷ es) (cond b ((e.0, presence) ∷ es) (e ∷ set_value test es presence))
  set_there test e es presence found true is same rest number other (inl here) = (
    e.1,
    inl (ap (λ key. (key, e.1)) (key_is (e.0, presence) (number, other) here)),
    ap agreed_in (sym (presence_is (e.0, presence) (number, other) here)) ∙ same ∙ ap agreed_in (sym (found_is e.1 found is)),
  )
  set_there test e es presence found true is same rest number other (inr later) = (other, inr later, refl)
  set_there test e es presence found false is same rest number other (inl here) = (other, inl here, refl)
  set_there test e es presence found false is same rest number other (inr later) =
      let (before, there, was) = rest is number other later in (before, inr there, was)

  -- another for the same settings takes the place of one
  pub set_agreed : (test : ℕ → Bool) (domains : List (ℕ × Presence T U B D)) (presence found : Presence T U B D)
      → lookup test domains ≡ Some found → agreed_in presence ≡ agreed_in found → KeepsAgreed domains (set_value test domains presence)
  set_agreed test [] presence found is same = λ number other in_it. absurd in_it
  set_agreed test (e ∷ es) presence found is same
      = set_there test e es presence found (test e.0) is same (λ later. set_agreed test es presence found later same)

  come_there : (number : ℕ) (presence : Presence T U B D) (e : ℕ × Presence T U B D) (es later : List (ℕ × Presence T U B D))
      (order : Ordering) → nat_cmp number e.0 ≡ order → (other : ℕ) (what : Presence T U B D)
      → (Among (other, what) later → HadDomain other what es ⊎ ((other ≡ number) × (what ≡ presence)))
      → Among (other, what) (match_ordering order ((number, presence) ∷ e ∷ es) ((e.0, presence) ∷ es) (e ∷ later))
      → HadDomain other what (e ∷ es) ⊎ ((other ≡ number) × (what ≡ presence))
  come_there number presence e es later Less is other what rest (inl here)
      = inr (sym (key_is (number, presence) (other, what) here), sym (presence_is (number, presence) (other, what) here))
  come_there number presence e es later Less is other what rest (inr there) = inl (what, there, refl)
  come_there number presence e es later Equal is other what rest (inl here) =
      inr (
        sym (key_is (e.0, presence) (other, what) here) ∙ sym (is_number number e.0 (ap is_eq is)),
        sym
            (presence_is (e.0, presence) (other, what) here),
      )
  come_there number presence e es later Equal is other what rest (inr there) = inl (what, inr there, refl)
  come_there number presence e es later Greater is other what rest (inl here) = inl (what, inl here, refl)
  come_there number presence e es later Greater is other what rest (inr there) = deeper (rest there)
    where
      deeper : HadDomain other what es ⊎ ((other ≡ number) × (what ≡ presence)) → HadDomain other what (e ∷ es)
          ⊎ ((other ≡ number) × (what ≡ presence))
      deeper (inl (before, was, same)) = inl (before, inr was, same)
      deeper (inr is) = inr is

  -- one more comes
  pub come_agreed : (number : ℕ) (domains : List (ℕ × Presence T U B D)) (presence : Presence T U B D) (other : ℕ)
      (what : Presence T U B D) → Among (other, what) (insert_entry nat_cmp domains number presence)
      → HadDomain other what domains ⊎ ((other ≡ number) × (what ≡ presence))
  come_agreed number [] presence other what (inl here)
      = inr (sym (key_is (number, presence) (other, what) here), sym (presence_is (number, presence) (other, what) here))
  come_agreed number [] presence other what (inr there) = absurd there
  come_agreed number (e ∷ es) presence other what in_it =
      come_there number presence e es (insert_entry nat_cmp es number presence) (nat_cmp number e.0) refl other what
      (come_agreed number es presence other what) in_it
