-- What the tests of names, patterns and nodes tell.
use Rattle.std.proofs.Common.{◌≡◌, ℕ, Bool, true, false, cond, ◌&&◌, List, [], ◌∷◌, refl, sym, ap, subst, ◌∙◌, true≢false}
use Rattle.std.proofs.lemmas.Bool.{eq-eqb, false_from_ne_true}
use Rattle.std.specs.Cmp.Lexicographic.{same_text}
use Rattle.iox_machine.specs.IndependenceLaws.{is_factory_of, is_of}
use Rattle.iox_machine.specs.Phase.{Phase, same_pattern}
use Rattle.iox_machine.specs.Service.{Service}
use Rattle.iox_machine.specs.State.{State, Factory, with_phase, is_service_of}
use Rattle.std.specs.Prelude.{bytes_eq, ◌==◌}
use Rattle.iox_machine.proofs.Cases.{both-true}
use Rattle.iox_command.specs.NegotiateBase.DescribeBase.declared.pattern.MessagingPattern.{MessagingPattern}
use Rattle.iox_command.specs.NegotiateBase.DescribeBase.declared.pattern.MessagingPattern.TheVariants as messaging

pub pattern-is : (one other : MessagingPattern) → same_pattern one other ≡ true → one ≡ other
pattern-is messaging.RequestResponse messaging.RequestResponse e = refl
pattern-is messaging.PublishSubscribe messaging.PublishSubscribe e = refl
pattern-is messaging.Event messaging.Event e = refl
pattern-is one other e = absurd (true≢false (sym e))

pub pattern-itself : (one : MessagingPattern) → same_pattern one one ≡ true
pattern-itself messaging.RequestResponse = refl
pattern-itself messaging.PublishSubscribe = refl
pattern-itself messaging.Event = refl

pub name-is : (one other : List ℕ) → bytes_eq one other ≡ true → one ≡ other
name-is one other e = same_text one other (sym e)

pub and-true : (b c : Bool) → b ≡ true → c ≡ true → (b && c) ≡ true
and-true true c e f = f
and-true false c e f = e

pub name-itself : (one : List ℕ) → bytes_eq one one ≡ true
name-itself [] = refl
name-itself (x ∷ xs) = and-true (x == x) (bytes_eq xs xs) (eq-eqb x x refl) (name-itself xs)

pub name-turned : (one other : List ℕ) → bytes_eq one other ≡ true → bytes_eq other one ≡ true
name-turned one other e = subst (λ (it : List ℕ). bytes_eq other it ≡ true) (sym (name-is one other e)) (name-itself other)

-- the phase of a pattern and name, once it is another
pub phase-there : {T : Type 0} (pattern : MessagingPattern) (name : List ℕ) (phase : Phase) (state : State T)
    → (with_phase pattern name phase state).phases pattern name ≡ phase
phase-there pattern name phase state =
    ap (λ (b : Bool). cond b phase (state.phases pattern name))
    (and-true (same_pattern pattern pattern) (bytes_eq name name) (pattern-itself pattern) (name-itself name))

-- Each phase is so, where one is another.
pub phases-all : {T : Type 0} (R : MessagingPattern → List ℕ → Phase → Type 0) (pattern : MessagingPattern) (name : List ℕ) (phase : Phase)
    (state : State T)
    → ((one : MessagingPattern) (other : List ℕ) → R one other (state.phases one other)) → R pattern name phase
    → (one : MessagingPattern) (other : List ℕ) → R one other ((with_phase pattern name phase state).phases one other)
phases-all R pattern name phase state all so one other = here (same_pattern one pattern && bytes_eq other name) refl
  where
    here : (b : Bool) → (same_pattern one pattern && bytes_eq other name) ≡ b → R one other (cond b phase (state.phases one other))
    here true is =
        subst (λ (p : MessagingPattern). R p other phase)
        (sym (pattern-is one pattern (both-true (same_pattern one pattern) (bytes_eq other name) is).0))
        (subst (λ (n : List ℕ). R pattern n phase)
        (sym (name-is other name (both-true (same_pattern one pattern) (bytes_eq other name) is).1)) so)
    here false is = all one other

-- Each phase is so, where one is another, and all others were so.
pub phases-where : {T : Type 0} (R : MessagingPattern → List ℕ → Phase → Type 0) (pattern : MessagingPattern) (name : List ℕ)
    (phase : Phase)
    (state : State T)
    → ((one : MessagingPattern) (other : List ℕ) → (same_pattern one pattern && bytes_eq other name) ≡ false
    → R one other (state.phases one other))
    → R pattern name phase
    → (one : MessagingPattern) (other : List ℕ) → R one other ((with_phase pattern name phase state).phases one other)
phases-where R pattern name phase state all so one other = here (same_pattern one pattern && bytes_eq other name) refl
  where
    here : (b : Bool) → (same_pattern one pattern && bytes_eq other name) ≡ b → R one other (cond b phase (state.phases one other))
    here true is =
        subst (λ (p : MessagingPattern). R p other phase)
        (sym (pattern-is one pattern (both-true (same_pattern one pattern) (bytes_eq other name) is).0))
        (subst (λ (n : List ℕ). R pattern n phase)
        (sym (name-is other name (both-true (same_pattern one pattern) (bytes_eq other name) is).1)) so)
    here false is = all one other is

pub at-itself : (pattern : MessagingPattern) (name : List ℕ) (factory : Factory) → factory.pattern ≡ pattern → factory.name ≡ name
    → is_factory_of pattern name factory ≡ true
at-itself pattern name factory same is =
    and-true (same_pattern factory.pattern pattern) (bytes_eq factory.name name)
    (subst (λ (it : MessagingPattern). same_pattern factory.pattern it ≡ true) same (pattern-itself factory.pattern))
    (subst (λ (it : List ℕ). bytes_eq factory.name it ≡ true) is (name-itself factory.name))

-- a factory isn't of another pattern and name than its own
pub at-off : (pattern : MessagingPattern) (name : List ℕ) (factory : Factory)
    → (same_pattern pattern factory.pattern && bytes_eq name factory.name) ≡ false → is_factory_of pattern name factory ≡ false
at-off pattern name factory off =
    false_from_ne_true (is_factory_of pattern name factory)
    (λ is. true≢false (sym (at-itself factory.pattern factory.name (record { pattern = pattern; name = name; node = 0 })
    (sym (pattern-is factory.pattern pattern
    (both-true (same_pattern factory.pattern pattern) (bytes_eq factory.name name) is).0))
    (sym (name-is factory.name name (both-true (same_pattern factory.pattern pattern) (bytes_eq factory.name name) is).1))) ∙ off))

-- the factory of a service is one of its pattern and name
pub service-at : {T : Type 0} (pattern : MessagingPattern) (name : List ℕ) (service : Service T) (factory : Factory)
    → is_of pattern name service ≡ true
    → is_service_of factory service ≡ true → is_factory_of pattern name factory ≡ true
service-at pattern name service factory of is =
    at-itself pattern name factory
    (pattern-is factory.pattern messaging.PublishSubscribe
    (both-true (same_pattern factory.pattern messaging.PublishSubscribe) (bytes_eq service.name factory.name) is).0
    ∙ sym (pattern-is pattern messaging.PublishSubscribe
    (both-true (same_pattern pattern messaging.PublishSubscribe) (bytes_eq service.name name) of).0))
    (sym (name-is service.name factory.name
    (both-true (same_pattern factory.pattern messaging.PublishSubscribe) (bytes_eq service.name factory.name) is).1)
    ∙ name-is service.name name (both-true (same_pattern pattern messaging.PublishSubscribe) (bytes_eq service.name name) of).1)
