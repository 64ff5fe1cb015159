-- A machine that has one service alone does what this service does.
use Rattle.std.proofs.Common.{ℕ, ◌≡◌, ◌==◌, ◌&&◌, ◌||◌, Bool, true, false, List, [], ◌∷◌, length, Option, None, Some, refl, sym, ◌∙◌, ap}
use Rattle.std.proofs.Common.{subst, if◌then◌else◌, arith}
use Rattle.std.specs.Prelude.{MatchBool, MatchOption}
use Rattle.std.specs.List.{list_any}
use Rattle.std.proofs.lemmas.Bool.{eqb-true, eq-eqb, ne_eqb}
use Rattle.iox_command.specs.declared.reply.Reply.{Reply}
use Rattle.iox_machine.specs.Mailbox.{Mailbox}
use Rattle.iox_machine.specs.Service.{Service, with_mailbox}
use Rattle.iox_machine.specs.State.{State, AtOne, counted}
use Rattle.iox_machine.specs.Table.{contains}

module _ {T V : Type 0} (found : Service T → Option V) (Does : V → Service T → Reply T → Service T → Type 0) (state : State T) where
  pub one_does : (old new : Service T) (answer : Reply T) (one : V) → found old ≡ Some one → Does one old answer new
      → AtOne found Does (record state { services = old ∷ [] }) answer
      (record state { made = counted answer state.made; services = new ∷ [] })
  one_does old new answer one is does = rw is (new, rw is does, refl)

pub match_true : (b : Bool) (A B : Type 0) → b ≡ true → A → MatchBool b A B
match_true b A B e a = subst (λ (x : Bool). MatchBool x A B) (sym e) a

pub match_some : {X : Type 0} (o : Option X) (x : X) (A : Type 0) (F : X → Type 0) → o ≡ Some x → F x → MatchOption o A F
match_some o x A F e f = subst (λ y. MatchOption y A F) (sym e) f

pub match_none : {X : Type 0} (o : Option X) (A : Type 0) (F : X → Type 0) → o ≡ None → A → MatchOption o A F
match_none o A F e a = subst (λ y. MatchOption y A F) (sym e) a

pub match_false : (b : Bool) (A B : Type 0) → b ≡ false → B → MatchBool b A B
match_false b A B e h = subst (λ (x : Bool). MatchBool x A B) (sym e) h

pub nothing_there : {X : Type 0} (xs : List X) → length xs ≡ 0 → xs ≡ []
nothing_there [] e = refl
nothing_there (x ∷ xs) e = absurd (omega (arith, e))

pub both_hold : (a b : Bool) → a ≡ true → b ≡ true → (a && b) ≡ true
both_hold true b e f = f
both_hold false b e f = absurd (differ e)
  where
    differ : false ≡ true → ⊥
    differ e = cc e

pub either_left : (a b : Bool) → a ≡ true → (a || b) ≡ true
either_left true b e = refl
either_left false b e = absurd (cc e)

pub either_right : (a b : Bool) → b ≡ true → (a || b) ≡ true
either_right true b e = refl
either_right false b e = e

neither : (a b : Bool) → a ≡ false → b ≡ false → (a || b) ≡ false
neither true b e f = e
neither false b e f = f

-- some member passes a test, or none does
pub any_passes : (test : ℕ → Bool) (xs : List ℕ) (x : ℕ) → contains xs x ≡ true → test x ≡ true → list_any test xs ≡ true
any_passes test [] x is passes = is
any_passes test (y ∷ xs) x is passes = by_test (λ h. any_passes test xs x h passes) (y == x) refl is
  where
    by_test : (contains xs x ≡ true → list_any test xs ≡ true) → (b : Bool) → (y == x) ≡ b → (b || contains xs x) ≡ true
        → (test y || list_any test xs) ≡ true
    by_test more true e h = either_left (test y) (list_any test xs) (ap test (eqb-true y x e) ∙ passes)
    by_test more false e h = either_right (test y) (list_any test xs) (more h)

pub none_passes : (test : ℕ → Bool) (xs : List ℕ) → ((x : ℕ) → contains xs x ≡ true → test x ≡ false) → list_any test xs ≡ false
none_passes test [] fails = refl
none_passes test (y ∷ xs) fails =
    neither (test y) (list_any test xs) (fails y (either_left (y == y) (contains xs y) (eq-eqb y y refl)))
    (none_passes test xs (λ x is. fails x (either_right (y == x) (contains xs x) is)))

-- the mailbox of a publisher and a subscriber, where one of them has another, and each other one
module _ {T : Type 0} (publisher subscriber : ℕ) (box : Mailbox T) (service : Service T) where
  pub box_there : (with_mailbox publisher subscriber box service).mailboxes publisher subscriber ≡ Some box
  box_there =
      ap (λ (b : Bool). if b then Some box else service.mailboxes publisher subscriber)
      (both_hold (publisher == publisher) (subscriber == subscriber) (eq-eqb publisher publisher refl) (eq-eqb subscriber subscriber refl))

  pub box_of_other : (one other : ℕ) → (one ≡ publisher → ⊥)
      → (with_mailbox publisher subscriber box service).mailboxes one other ≡ service.mailboxes one other
  box_of_other one other off =
      ap (λ (b : Bool). if b && (other == subscriber) then Some box else service.mailboxes one other) (ne_eqb one publisher off)

  pub box_to_other : (one other : ℕ) → (other ≡ subscriber → ⊥)
      → (with_mailbox publisher subscriber box service).mailboxes one other ≡ service.mailboxes one other
  box_to_other one other off =
      ap (λ (b : Bool). if b then Some box else service.mailboxes one other)
      (fails_right (one == publisher) (other == subscriber) (ne_eqb other subscriber off))
    where
      fails_right : (a b : Bool) → b ≡ false → (a && b) ≡ false
      fails_right true b e = e
      fails_right false b e = refl
