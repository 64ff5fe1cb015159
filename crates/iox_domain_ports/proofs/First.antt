-- The first that passes a test is found one by one.
use Rattle.std.proofs.Common.{rules, arith, ◌≡◌, ◌+◌, ◌<◌, ◌≤◌, ◌&&◌, inl, inr, ℕ, Bool, true, false, nat_lt, List, length, get_or}
use Rattle.std.proofs.Common.{slice_get, None, Some, refl, sym, ap, ◌∙◌}
use Rattle.std.proofs.lemmas.Option.{get_or_from_slice_get, slice_get-get_or}
use Rattle.iox_domain_ports.specs.declared.publisher_port.PublisherPort.{PublisherPort}
use Rattle.iox_domain_ports.specs.Subscribing.{attached_at, connection_by, has_data, is_below, gives}
use Rattle.iox_domain_ports.specs.Receiving.{IsFirst, IsMet}
use Rattle.iox_domain_ports.specs.declared.subscriber_port.SubscriberPort.{SubscriberPort}

-- none below passes
abbrev pub NonePasses : (ℕ → Bool) → ℕ → Type 0
NonePasses test count = (key : ℕ) → key < count → test key ≡ false

-- one more doesn't pass
pub one_fails : (test : ℕ → Bool) (count : ℕ) → NonePasses test count → test count ≡ false → NonePasses test (count + 1)
one_fails test count none last key below = at (nat_lt key count) refl
  where
    at : (less : Bool) → nat_lt key count ≡ less → test key ≡ false
    at true less = none key (grind (arith, less))
    at false less =
        let same : key ≡ count = grind (arith, less, below) in
        ap test same ∙ last

-- none passes at all where none does from a number on
pub none_first : (test : ℕ → Bool) (count : ℕ) → NonePasses test count → ((key : ℕ) → count ≤ key → test key ≡ false) → IsFirst test None
none_first test count none past key = at (nat_lt key count) refl
  where
    at : (less : Bool) → nat_lt key count ≡ less → test key ≡ false
    at true less = none key (grind (arith, less))
    at false less =
        let behind : count ≤ key = grind (arith, less) in
        past key behind

-- a key without a connection has no data and gives nothing
pub no_data_without : {T U : Type 0} (port : SubscriberPort) (ports : List (ℕ × PublisherPort T U)) (key : ℕ)
    → attached_at key port ≡ None → has_data port ports key ≡ false
no_data_without port ports key none = ap (λ attached. nat_lt 0 (length (connection_by attached ports).waiting)) none

pub none_given_without : {T U : Type 0} (port : SubscriberPort) (ports : List (ℕ × PublisherPort T U)) (key : ℕ)
    → attached_at key port ≡ None → gives port ports key ≡ false
none_given_without port ports key none = both (is_below port ports key) (has_data port ports key) (no_data_without port ports key none)
  where
    both : (a b : Bool) → b ≡ false → a && b ≡ false
    both true b is = is
    both false b is = refl

-- none of the first n of a list passes
abbrev pub NoneMet : (ℕ → Bool) → List ℕ → ℕ → Type 0
NoneMet test keys count = (place : ℕ) → place < count → test (get_or keys place 0) ≡ false

-- one more is met that doesn't pass
pub one_met : (test : ℕ → Bool) (keys : List ℕ) (count key : ℕ) → NoneMet test keys count → Some key ≡ slice_get keys count
    → test key ≡ false → NoneMet test keys (count + 1)
one_met test keys count key none here fails
    = one_fails (λ place. test (get_or keys place 0)) count none (ap test (get_or_from_slice_get keys count key 0 (sym here)) ∙ fails)

-- one that passes is met
pub met_here : (test : ℕ → Bool) (keys : List ℕ) (count key : ℕ) → NoneMet test keys count → count < length keys
    → Some key ≡ slice_get keys count → test key ≡ true → IsMet test keys count
met_here test keys count key none within here passes
    = (none, inr (within, ap test (get_or_from_slice_get keys count key 0 (sym here)) ∙ passes))

-- all are met
pub met_all : (test : ℕ → Bool) (keys : List ℕ) (count : ℕ) → NoneMet test keys count → length keys < count + 1
    → IsMet test keys (length keys)
met_all test keys count none over = ((λ place below. none place (omega (arith, below, over))), inl refl)

-- a place of a list isn't without a key
pub key_there : {X : Type 0} (keys : List ℕ) (count : ℕ) → count < length keys → None ≡ slice_get keys count → X
key_there keys count within none = let wrong = none ∙ slice_get-get_or keys count 0 within in search (rules, wrong)
