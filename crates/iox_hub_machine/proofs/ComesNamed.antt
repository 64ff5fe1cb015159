-- A port more has a name, of the machine's, and goes by it.
use Rattle.std.proofs.Common.{◌≡◌, ◌≢◌, ◌≤◌, ◌⊎◌, ◌+◌, ℕ, Bool, true, cond, Option, Some, refl, sym, ap}
use Rattle.std.proofs.Common.{inl, inr, ◌∙◌, arith}
use Rattle.std.proofs.Math.Logic.{⊎_elim}
use Rattle.std.proofs.lemmas.Bool.{eq-eqb, ne_eqb}
use Rattle.std.proofs.lemmas.Bool.Decides.{eqb_tells}
use Rattle.iox_delivery.specs.declared.port_id.PortId.{PortId}
use Rattle.iox_domain.specs.declared.domain_id.DomainId.{DomainId}
use Rattle.iox_domain_machine.specs.Naming.{Naming, with_name}
use Rattle.iox_domain_machine.specs.Services.{AreNamedApart}
use Rattle.iox_hub_machine.specs.Standing.{GoByNames}

-- ---- names

pub named_there : {V : Type 0} (number : ℕ) (v : V) (names : ℕ → V) → with_name number v names number ≡ v
named_there number v names = ap (λ (b : Bool). cond b v (names number)) (eq-eqb number number refl)

pub named_aside : {V : Type 0} (number other : ℕ) (v : V) (names : ℕ → V) → other ≢ number
    → with_name number v names other ≡ names other
named_aside number other v names off = ap (λ (b : Bool). cond b v (names other)) (ne_eqb other number off)

-- another port: of another service, or of another number
abbrev pub IsAside : ℕ → ℕ → ℕ → ℕ → Type 0
IsAside service next one other = (one ≢ service) ⊎ (other ≢ next)

pub same_or_aside : (service next one other : ℕ) → ((one ≡ service) × (other ≡ next)) ⊎ IsAside service next one other
same_or_aside service next one other = ⊎_elim
    (λ same. ⊎_elim (λ also. inl (same.1, also.1)) (λ off. inr (inr off.1)) (eqb_tells other next))
    (λ off. inr (inl off.1)) (eqb_tells one service)

-- One port more has a name, and all others have those that they had.
pub record NamedThen (name later : ℕ → ℕ → ℕ) (service next number : ℕ) : Type 0 where
  pub there : later service next ≡ number
  pub aside : (one other : ℕ) → IsAside service next one other → later one other ≡ name one other

-- so it is where that is one more of a service
pub named_then : (of : Naming → ℕ → ℕ) (naming : ℕ → Naming) (names_then : Naming) (service next number : ℕ)
    → of names_then ≡ with_name next number (of (naming service))
    → NamedThen (λ one. of (naming one)) (λ one. of (with_name service names_then naming one)) service next number
named_then of naming names_then service next number is = record {
  there = ap (λ (names : Naming). of names next) (named_there service names_then naming) ∙ ap (λ (name : ℕ → ℕ). name next) is
      ∙ named_there next number (of (naming service));
  aside = λ one other off. ⊎_elim
      (λ same. ap (λ (b : Bool). of (cond b names_then (naming one)) other) same.0 ∙ ap (λ (name : ℕ → ℕ). name other) is
      ∙ named_aside next other number (of (naming service)) (⊎_elim (λ apart. absurd (apart same.1)) (λ apart. apart) off)
      ∙ ap (λ (it : ℕ). of (naming it) other) (sym same.1))
      (λ apart. ap (λ (names : Naming). of names other) (named_aside service one names_then naming apart.1)) (eqb_tells one service);
}

-- where a service names its ports as it did all are named so
pub named_still : (of : Naming → ℕ → ℕ) (naming : ℕ → Naming) (names_then : Naming) (service : ℕ)
    → of names_then ≡ of (naming service) → (one : ℕ) → of (with_name service names_then naming one) ≡ of (naming one)
named_still of naming names_then service is one = ⊎_elim
    (λ same. ap (λ (b : Bool). of (cond b names_then (naming one))) same.0 ∙ is ∙ ap (λ (it : ℕ). of (naming it)) (sym same.1))
    (λ apart. ap of (named_aside service one names_then naming apart.1)) (eqb_tells one service)

pub apart_still : (name later : ℕ → ℕ → ℕ) → ((one : ℕ) → later one ≡ name one) → AreNamedApart name → AreNamedApart later
apart_still name later same apart one other port another some is =
    apart one other port another (λ zero. some (ap (λ (names : ℕ → ℕ). names port) (same one) ∙ zero))
    (sym (ap (λ (names : ℕ → ℕ). names port) (same one)) ∙ is ∙ ap (λ (names : ℕ → ℕ). names another) (same other))

module _ (name later : ℕ → ℕ → ℕ) (service next number : ℕ) (then : NamedThen name later service next number) where
  there_at : (one other : ℕ) → one ≡ service → other ≡ next → later one other ≡ number
  there_at one other is also = ap (λ (it : ℕ). later it other) is ∙ ap (later service) also ∙ then.there

  -- names are apart still, where nobody had the number for one
  pub apart_then : ((one other : ℕ) → name one other ≢ number) → AreNamedApart name → AreNamedApart later
  apart_then new apart one other port another some same = ⊎_elim
      (λ is. ⊎_elim
      (λ also. is.0 ∙ sym also.0)
      (λ off. absurd (new other another (sym (then.aside other another off) ∙ sym same ∙ there_at one port is.0 is.1)))
      (same_or_aside service next other another))
      (λ out. ⊎_elim
      (λ also. absurd (new one port (sym (then.aside one port out) ∙ same ∙ there_at other another also.0 also.1)))
      (λ off. apart one other port another (λ zero. some (then.aside one port out ∙ zero))
      (sym (then.aside one port out) ∙ same ∙ then.aside other another off))
      (same_or_aside service next other another))
      (same_or_aside service next one port)

  -- names are within the numbers still
  pub within_then : (most : ℕ) → number ≤ most + 1 → ((one other : ℕ) → name one other ≤ most) → (one other : ℕ)
      → later one other ≤ most + 1
  within_then most few within one other = ⊎_elim
      (λ is. omega (arith, few, there_at one other is.0 is.1))
      (λ off. omega (arith, within one other, then.aside one other off)) (same_or_aside service next one other)

module _ (name later : ℕ → ℕ → ℕ) (id : DomainId) (next number : ℕ) (then : NamedThen name later id.service next number)
    (stands stands_then : DomainId → ℕ → Bool) (under under_then : ℕ → Option PortId) (up_there : stands_then id next ≡ true)
    (up_aside : (domain : DomainId) (port : ℕ) → IsAside id.service next domain.service port
    → stands_then domain port ≡ stands domain port)
    (aside : (domain : DomainId) (port : ℕ) → stands domain port ≡ true → IsAside id.service next domain.service port)
    (or_there : (domain : DomainId) (port : ℕ) → stands_then domain port ≡ true
    → ((domain ≡ id) × (port ≡ next)) ⊎ IsAside id.service next domain.service port)
    (kept : (other : ℕ) (port : PortId) → under other ≡ Some port → under_then other ≡ Some port)
    (came : under_then number ≡ Some (record { domain = id; number = next }))
    (only : (other : ℕ) (port : PortId) → under_then other ≡ Some port
    → (under other ≡ Some port) ⊎ ((other ≡ number) × (port ≡ record { domain = id; number = next }))) where
  -- ports go by their names still, and so does the one more
  pub go_then : GoByNames name stands under → GoByNames later stands_then under_then
  go_then goes = record {
    known = λ other port found. ⊎_elim
        (λ was.
        let it = goes.known other port was in
        let off = aside port.domain port.number it.1 in
        (then.aside port.domain.service port.number off ∙ it.0, up_aside port.domain port.number off ∙ it.1))
        (λ is. (
          ap (λ (one : PortId). later one.domain.service one.number) is.1 ∙ then.there ∙ sym is.0,
          ap (λ (one : PortId). stands_then one.domain one.number) is.1 ∙ up_there,
        )) (only other port found);
    each = λ domain port up. ⊎_elim
        (λ is. ap (λ (one : DomainId). under_then (later one.service port)) is.0
        ∙ ap (λ (it : ℕ). under_then (later id.service it)) is.1 ∙ ap under_then then.there ∙ came
        ∙ (λ i. Some (record { domain = sym is.0 i; number = sym is.1 i })))
        (λ off. ap under_then (then.aside domain.service port off)
        ∙ kept (name domain.service port) (record { domain = domain; number = port })
        (goes.each domain port (sym (up_aside domain port off) ∙ up)))
        (or_there domain port up);
  }
