-- Whether a test holds of one of the first numbers, number by number; and whether two messages stand in one slot.
use Rattle.std.proofs.Common.{arith, ℕ, zero, suc, ◌≡◌, ◌+◌, ◌<◌, ◌≤◌, ◌||◌, ◌==◌, Bool, true, false, nat_lt, List, map, slice_get}
use Rattle.std.proofs.Common.{option_map}
use Rattle.std.proofs.Common.{Option, None, Some, refl, sym, ap, ◌∙◌, inl, inr}
use Rattle.std.proofs.lemmas.Bool.Decides.{eqb_tells}
use Rattle.std.proofs.lemmas.Option.{slice_get-map}
use Rattle.iox_domain.specs.DomainPorts.Messages.{Message}
use Rattle.iox_domain.specs.DomainPorts.Subscribing.{attached_at}
use Rattle.iox_domain.specs.DomainPorts.declared.attached.Attached.{Attached}
use Rattle.iox_domain.specs.DomainPorts.declared.subscriber_port.SubscriberPort.{SubscriberPort}
use Rattle.iox_lanes_opening.specs.Soundness.{any_below, comes_again, share_publisher, share_slot}
use Rattle.iox_lanes_opening.proofs.Going.{or_true}

-- one of them is enough
pub any_at : (test : ℕ → Bool) (count k : ℕ) → k < count → test k ≡ true → any_below test count ≡ true
any_at test zero k below holds = absurd (omega (arith, below))
any_at test (suc count) k below holds = elim (eqb_tells k count) [
  | inl same ↦ ap (λ b. any_below test count || b) (ap test (sym same.1) ∙ holds) ∙ or_true (any_below test count)
  | inr apart ↦ ap (λ b. b || test count) (any_at test count k (omega (arith, below, apart.1)) holds)
]

-- and one more number of which it doesn't
pub none_next : (test : ℕ → Bool) (count : ℕ) (answer : Bool) → any_below test count ≡ false → answer ≡ test count → answer ≡ false
    → any_below test (count + 1) ≡ false
none_next test count answer none told not =
    let next : count + 1 ≡ suc count = omega arith in
    ap (any_below test) next ∙ ap (λ b. b || test count) none ∙ sym told ∙ not

left_false : (a b : Bool) → (a || b) ≡ false → a ≡ false
left_false true b none = absurd (cc none)
left_false false b none = refl

-- and of none of all where so it is of none of as many or more
pub none_all : (test : ℕ → Bool) (count reached : ℕ) → count ≤ reached → any_below test reached ≡ false → any_below test count ≡ false
none_all test count zero all none =
    let same : count ≡ 0 = omega (arith, all) in
    ap (any_below test) same
none_all test count (suc reached) all none = elim (eqb_tells count (suc reached)) [
  | inl same ↦ ap (any_below test) same.1 ∙ none
  | inr apart ↦ none_all test count reached (omega (arith, all, apart.1)) (left_false (any_below test reached) (test reached) none)
]

right_false : (a b : Bool) → (a || b) ≡ false → b ≡ false
right_false true b none = absurd (cc none)
right_false false b none = none

-- so it is of none of these
pub none_below : (test : ℕ → Bool) (limit k : ℕ) → any_below test limit ≡ false → k < limit → test k ≡ false
none_below test zero k none below = absurd (omega (arith, below))
none_below test (suc limit) k none below = elim (eqb_tells k limit) [
  | inl same ↦ ap test same.1 ∙ right_false (any_below test limit) (test limit) none
  | inr apart ↦ none_below test limit k (left_false (any_below test limit) (test limit) none) (omega (arith, below, apart.1))
]

-- and of none of more, where it isn't of any after these
pub none_beyond : (test : ℕ → Bool) (count reached : ℕ) → ((k : ℕ) → reached ≤ k → test k ≡ false) → any_below test reached ≡ false
    → any_below test count ≡ false
none_beyond test zero reached behind none = refl
none_beyond test (suc count) reached behind none =
    ap (λ b. b || test count) (none_beyond test count reached behind none) ∙ by (nat_lt count reached) refl
  where
    by : (less : Bool) → nat_lt count reached ≡ less → test count ≡ false
    by true less = none_below test reached count none (grind (arith, less))
    by false less = behind count (grind (arith, less))

share_none : (one : Option Attached) → share_publisher one None ≡ false
share_none None = refl
share_none (Some one) = refl

-- a key without a connection shares its publisher with none
pub comes_none : (port : SubscriberPort) (key : ℕ) → attached_at key port ≡ None → comes_again port key ≡ false
comes_none port key without = by key
  where
    by : (limit : ℕ) → any_below (λ other. share_publisher (attached_at other port) (attached_at key port)) limit ≡ false
    by zero = refl
    by (suc limit) =
        ap (λ b. b || share_publisher (attached_at limit port) (attached_at key port)) (by limit)
        ∙ ap (share_publisher (attached_at limit port)) without ∙ share_none (attached_at limit port)

share_by : {T U : Type 0} (one other : Option (Message T U)) (first second : ℕ) → option_map (λ message. message.slot) one ≡ Some first
    → option_map (λ message. message.slot) other ≡ Some second → share_slot one other ≡ (first == second)
share_by None other first second is too = absurd (cc is)
share_by (Some one) None first second is too = absurd (cc too)
share_by (Some one) (Some other) first second is too =
    let left : one.slot ≡ first = cc in
    let right : other.slot ≡ second = cc in
    ap (λ n. n == other.slot) left ∙ ap (λ n. first == n) right

-- whether two messages whose slots these are share one
pub share_at : {T U : Type 0} (list : List (Message T U)) (one other first second : ℕ)
    → slice_get (map (λ message. message.slot) list) one ≡ Some first → slice_get (map (λ message. message.slot) list) other ≡ Some second
    → share_slot (slice_get list one) (slice_get list other) ≡ (first == second)
share_at list one other first second is too =
    share_by (slice_get list one) (slice_get list other) first second (sym (slice_get-map (λ message. message.slot) list one) ∙ is)
    (sym (slice_get-map (λ message. message.slot) list other) ∙ too)
