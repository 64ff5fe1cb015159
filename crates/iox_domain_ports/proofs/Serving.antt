-- Who gives is one that may give.
use Rattle.std.proofs.Common.{rules, ◌≡◌, ◌&&◌, ◌∷◌, [], ℕ, zero, suc, Bool, true, nat_lt, List, length, get_or, slice_get, Option, None}
use Rattle.std.proofs.Common.{Some, Result, Ok, refl, sym, ap, subst, ◌∙◌, arith}
use Rattle.std.proofs.Math.Logic.{⊎_elim}
use Rattle.std.proofs.lemmas.Option.{slice_get-get_or}
use Rattle.iox_domain_ports.specs.declared.publisher_port.PublisherPort.{PublisherPort}
use Rattle.iox_domain_ports.specs.Subscribing.{attached_at, connection_by, most_by, has_data, gives, taken_of}
use Rattle.iox_domain_ports.specs.Receiving.{IsMet, IsGiver, given, IsReceiveAnswer}
use Rattle.iox_domain_ports.specs.SubscriberLaws.{ReceivesIfGiven}
use Rattle.iox_domain_ports.specs.declared.attached.Attached.{Attached}
use Rattle.iox_domain_ports.specs.declared.attached.Taken.{Taken}
use Rattle.iox_domain_ports.specs.declared.subscriber_port.SubscriberPort.{SubscriberPort}

-- nothing stands past the end
past : (xs : List ℕ) (n : ℕ) → n ≡ length xs → slice_get xs n ≡ None
past [] n long = refl
past (x ∷ xs) zero long = absurd (omega (arith, long))
past (x ∷ xs) (suc n) long = past xs n (omega (arith, long))

-- a giver passes the test
giver_passes : (test : ℕ → Bool) (keys : List ℕ) (met key : ℕ) (at : Option ℕ) → slice_get keys met ≡ at → IsMet test keys met
    → IsGiver at test (Some key) → test key ≡ true
giver_passes test keys met key None is meets giver = giver.0
giver_passes test keys met key (Some first) is meets giver = ⊎_elim
    (λ all. let wrong : slice_get keys met ≡ None = past keys met all in let no = sym is ∙ wrong in search (rules, no))
    (λ one.
    let here : Some (get_or keys met 0) ≡ Some key = sym (slice_get-get_or keys met 0 one.0) ∙ is ∙ sym giver in
    let same : get_or keys met 0 ≡ key = search (rules, here) in
    ap test (sym same) ∙ one.1)
    meets.1

-- where one passes there is a giver
some_giver : {X : Type 0} (test : ℕ → Bool) (at : Option ℕ) (key : ℕ) → IsGiver at test None → test key ≡ true → X
some_giver test None key none passes = let wrong = sym (none key) ∙ passes in search (rules, wrong)
some_giver test (Some first) key none passes = search (rules, none)

-- what is given where a connection gives is a message
given_there : {T U : Type 0} (port : SubscriberPort) (ports : List (ℕ × PublisherPort T U)) (key : ℕ) (attached : Option Attached)
    → attached_at key port ≡ attached → gives port ports key ≡ true
    → (taken : Taken) × (taken_of port.number attached ports ≡ Some taken)
given_there port ports key None is passes =
    let wrong = ap (λ one. nat_lt (length (connection_by one ports).borrowed) (most_by one ports)
    && nat_lt 0 (length (connection_by one ports).waiting)) (sym is) ∙ passes in
    search (rules, wrong)
given_there port ports key (Some attached) is passes = (_, refl)

answer_of : (taken : Option Taken) (has_data : ℕ → Bool) (answer : Result (Option Taken) _) (one : Taken)
    → IsReceiveAnswer taken has_data answer → answer ≡ Ok (Some one) → taken ≡ Some one
answer_of (Some taken) has_data answer one answers is = let same = sym answers ∙ is in search (rules, same)
answer_of None has_data answer one (None, first, answers) is = let wrong = sym answers ∙ is in search (rules, wrong)
answer_of None has_data answer one (Some key, first, answers) is = let wrong = sym answers ∙ is in search (rules, wrong)

received : {T U : Type 0} (port : SubscriberPort) (ports : List (ℕ × PublisherPort T U)) (met key : ℕ) (giver : Option ℕ)
    (taken : Option Taken) (has_data : ℕ → Bool) (answer : Result (Option Taken) _)
    → IsMet (gives port ports) port.expired.items met → IsGiver (slice_get port.expired.items met) (gives port ports) giver
    → taken ≡ given giver port ports → IsReceiveAnswer taken has_data answer
    → gives port ports key ≡ true → (one : Taken) × (answer ≡ Ok (Some one))
received port ports met key None taken has_data answer meets giver is answers passes
    = some_giver (gives port ports) (slice_get port.expired.items met) key giver passes
received port ports met key (Some first) taken has_data answer meets giver is answers passes =
    let there = given_there port ports first (attached_at first port) refl
    (giver_passes (gives port ports) port.expired.items met first (slice_get port.expired.items met) refl meets giver) in
    let A : Option Taken → Type 0 = λ one. IsReceiveAnswer one has_data answer in (there.0, subst A (is ∙ there.1) answers)

gave : {T U : Type 0} (port : SubscriberPort) (ports : List (ℕ × PublisherPort T U)) (met : ℕ) (giver : Option ℕ) (one : Taken)
    → IsMet (gives port ports) port.expired.items met → IsGiver (slice_get port.expired.items met) (gives port ports) giver
    → given giver port ports ≡ Some one → (key : ℕ) × (gives port ports key ≡ true)
gave port ports met None one meets giver is = search (rules, is)
gave port ports met (Some key) one meets giver is
    = (key, giver_passes (gives port ports) port.expired.items met key (slice_get port.expired.items met) refl meets giver)

pub receives_if_given : {T U : Type 0} → ReceivesIfGiven T U
receives_if_given = record {
  some = λ port new ports new_ports answer key receives passes.
      let (taken, (met, meets, giver, is_giver, is_taken, after, after_ports, is_there), answers) = receives in
      received port ports met key giver taken (has_data new new_ports) answer meets is_giver is_taken answers passes;
  none = λ port new ports new_ports answer one receives is.
      let (taken, (met, meets, giver, is_giver, is_taken, after, after_ports, is_there), answers) = receives in
      gave port ports met giver one meets is_giver (sym is_taken ∙ answer_of taken (has_data new new_ports) answer one answers is);
}
