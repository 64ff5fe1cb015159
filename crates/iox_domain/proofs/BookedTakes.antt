-- What a receive leaves of what a publisher and one of its connections keep.
use Rattle.std.proofs.Common.{arith, ◌≡◌, ◌≢◌, ◌<◌, ◌&&◌, ◌==◌, ◌⊎◌, ◌∷◌, [], ◌++◌, append-nil, append_assoc, take-append-drop, ℕ, zero}
use Rattle.std.proofs.Common.{suc, Bool, true, false, List, get_or, set, length, take, drop, nat_lt, slice_get, map, Option, None, Some}
use Rattle.std.proofs.Common.{Result, Ok, Err, refl, sym, ap, ◌∙◌, subst, if◌then◌else◌, inl, inr}
use Rattle.std.proofs.lemmas.Bool.{cases_eq, eqb-true, eq-eqb}
use Rattle.std.proofs.lemmas.List.{get_or-set_other}
use Rattle.iox_domain.specs.DomainValues.declared.connection_failure.ConnectionFailure.{ConnectionFailure}
use Rattle.iox_domain.specs.DomainValues.declared.degradation.DegradationAction.{DegradationAction}
use Rattle.iox_domain.specs.DomainValues.declared.degradation.DegradationInfo.{DegradationInfo}
use Rattle.iox_domain.specs.DomainValues.declared.port_error.ReceiveError.{ReceiveError}
use Rattle.iox_domain.specs.DomainSlots.Uses.{Connection, nobody, taken}
use Rattle.iox_domain.specs.DomainPorts.Messages.{Message}
use Rattle.iox_domain.specs.DomainPorts.Ports.{connection_of, goes_on}
use Rattle.iox_domain.specs.DomainPorts.declared.publisher_port.PublisherPort.{PublisherPort}
use Rattle.iox_domain.specs.DomainPorts.Publishers.{port_of, port_stands, with_port, changed, changed_at_port, connection_in}
use Rattle.iox_domain.specs.DomainPorts.Publishers.{connection_at_port}
use Rattle.iox_domain.specs.DomainPorts.Reading.{taken_at}
use Rattle.iox_domain.specs.DomainPorts.Receiving.{IsFirst, IsMet, IsGiver, given, given_ports, IsReceiveAnswer, nothing_taken}
use Rattle.iox_domain.specs.DomainPorts.Subscribing.{attached_at, connection_by, has_data, is_below, gives, taken_of, taken_ports}
use Rattle.iox_domain.specs.DomainPorts.SubscriberUpdating.{ReceivesAfter, ReceivesNext}
use Rattle.iox_domain.specs.DomainPorts.declared.attached.Attached.{Attached}
use Rattle.iox_domain.specs.DomainPorts.declared.attached.Taken.{Taken}
use Rattle.iox_domain.specs.DomainPorts.declared.subscriber_port.SubscriberPort.{SubscriberPort}
use Rattle.iox_domain.specs.Order.{IsPartOf, leads_at, leads_at_port, is_named}
use Rattle.iox_domain.proofs.Booked.{by_parts, steady_alike, steady_port}
use Rattle.iox_domain.proofs.BookedLists.{Booked, ListBooks, lists_stay, lists_changed, lists_other, book_walks}
use Rattle.iox_domain.proofs.Books.{Books, Missing}
use Rattle.iox_domain.proofs.Numbered.{at_number, same_set}
use Rattle.iox_domain.proofs.PortLawsParts.{part_first}
use Rattle.iox_domain.proofs.Sole.{IsSole, sole_set}
use Rattle.iox_domain.proofs.Walks.{Walks, WalksTaking, walked_receives, walked_updates, walked_swept}

-- what is kept of a publisher from one of whose connections so much more was taken
pub record ListTakes {T U : Type 0} (publisher index subscriber : ℕ) (more : List (Message T U))
    (old new : List (ℕ × PublisherPort T U)) : Type 0 where
  pub keeps : (sent before : List (Message T U)) → Booked publisher index subscriber sent before old
      → Booked publisher index subscriber sent (before ++ more) new

takes_none : {T U : Type 0} (publisher index subscriber : ℕ) (more : List (Message T U)) (old new : List (ℕ × PublisherPort T U))
    → more ≡ [] → ListBooks publisher index subscriber old new → ListTakes publisher index subscriber more old new
takes_none {T} {U} publisher index subscriber more old new none books = record {
  keeps = λ sent before booked. subst (λ (all : List (Message T U)). Booked publisher index subscriber sent all new)
      (sym (ap (λ all. before ++ all) none ∙ append-nil before)) (books.keeps sent before booked);
}

-- the oldest of one connection is taken; another is as it was
take_other : {T U : Type 0} (index at : ℕ) (port : PublisherPort T U) → index ≢ at
    → connection_of index (taken_at at port) ≡ connection_of index port
take_other index at port not = get_or-set_other port.sender.uses.connections at index (taken (connection_of at port)) nobody not

pub taken_set : {T U : Type 0} (connections : List (Connection (Message T U))) (index : ℕ)
    → get_or (set connections index (taken (get_or connections index nobody))) index nobody ≡ taken (get_or connections index nobody)
taken_set [] index = refl
taken_set (x ∷ xs) zero = refl
taken_set (x ∷ xs) (suc index) = taken_set xs index

-- what was taken, and what waits
whole : {T U : Type 0} (before waiting : List (Message T U)) → (before ++ take 1 waiting) ++ drop 1 waiting ≡ before ++ waiting
whole before waiting = append_assoc before (take 1 waiting) (drop 1 waiting) ∙ ap (λ all. before ++ all) (take-append-drop 1 waiting)

take_books : {T U : Type 0} (index subscriber : ℕ) (sent before : List (Message T U)) (port : PublisherPort T U)
    → Books index subscriber sent before port
    → Books index subscriber sent (before ++ take 1 (connection_of index port).waiting) (taken_at index port)
take_books {T} {U} index subscriber sent before port books =
    let waiting : List (Message T U) = (connection_of index port).waiting in
    let new : PublisherPort T U = taken_at index port in
    let here : connection_of index new ≡ taken (connection_of index port) = taken_set port.sender.uses.connections index in
    let leads_is : leads_at index subscriber new ≡ leads_at index subscriber port
    = by_parts index subscriber port new (ap (λ one. goes_on one.stage) here) refl in
    let all : (before ++ take 1 waiting) ++ (connection_of index new).waiting ≡ before ++ waiting
    = ap (λ one. (before ++ take 1 waiting) ++ one.waiting) here ∙ whole before waiting in
    record {
      history = books.history;
      numbered = books.numbered;
      last = books.last;
      left = books.left;
      part = λ leads. subst (λ (one : List (Message T U)). IsPartOf one sent) (sym all) (books.part (sym leads_is ∙ leads));
      due = λ leads message first sending is place from tie. subst (λ (one : List (Message T U)). IsPartOf one first) (sym all)
          (books.due (sym leads_is ∙ leads) message first sending is place from tie);
      idle = λ leads stands untied. all ∙ books.idle (sym leads_is ∙ leads) stands untied;
    }

one_port : {T U : Type 0} (one other : PublisherPort T U) (found : Option (PublisherPort T U)) → found ≡ Some one → found ≡ Some other
    → one ≡ other
one_port one other found first second = let both : Some one ≡ Some other = sym first ∙ second in cc

-- The oldest message of the connection is taken. If its reader was the subscriber before the call, it still is, or its publisher
-- left.
taken_booked : {T U : Type 0} (publisher index subscriber : ℕ) (sent before : List (Message T U)) (port : PublisherPort T U)
    (ports : List (ℕ × PublisherPort T U)) → port_of publisher ports ≡ Some port → Booked publisher index subscriber sent before ports
    → (leads_at index subscriber port ≡ false → (port.stands ≡ false) × IsPartOf (before ++ take 1 (connection_of index port).waiting) sent)
    → Booked publisher index subscriber sent (before ++ take 1 (connection_of index port).waiting)
    (with_port publisher ports (taken_at index port))
taken_booked {T} {U} publisher index subscriber sent before port ports there booked off =
    let after : PublisherPort T U = taken_at index port in
    let all : List (Message T U) = before ++ take 1 (connection_of index port).waiting in
    let now : port_of publisher (with_port publisher ports after) ≡ Some after = same_set (at_number publisher) ports after port there in
    let leads_is : leads_at index subscriber after ≡ leads_at index subscriber port
    = by_parts index subscriber port after (ap (λ one. goes_on one.stage) (taken_set port.sender.uses.connections index)) refl in
    let missing : Missing index subscriber sent all after = λ gone. inr (off (sym leads_is ∙ gone)) in
    record {
      sole = sole_set publisher (at_number publisher) ports after booked.sole;
      books = λ found is. subst (λ (one : PublisherPort T U). Books index subscriber sent all one) (one_port after found _ now is)
          (take_books index subscriber sent before port (booked.books port there));
      missing = λ found is. subst (λ (one : PublisherPort T U). Missing index subscriber sent all one) (one_port after found _ now is)
          missing;
    }

-- the oldest of another connection is taken
taken_elsewhere : {T U : Type 0} (publisher index subscriber : ℕ) (attached : Attached) (ports : List (ℕ × PublisherPort T U))
    → ((publisher == attached.publisher) && (index == attached.index)) ≡ false
    → ListBooks publisher index subscriber ports (changed attached.publisher (taken_at attached.index) ports)
taken_elsewhere publisher index subscriber attached ports not = elim (cases_eq publisher attached.publisher) [
  | inl same ↦ lists_changed publisher index subscriber attached.publisher (taken_at attached.index) ports (λ port.
      let apart : index ≢ attached.index = λ at. let no : true ≡ false
      = sym (both (publisher == attached.publisher) (index == attached.index) (eq-eqb publisher attached.publisher same)
      (eq-eqb index attached.index at)) ∙ not in cc in
      let here = take_other index attached.index port apart in
      steady_port index subscriber port (taken_at attached.index port)
      (steady_alike index subscriber port (taken_at attached.index port) refl refl refl refl refl refl
      (by_parts index subscriber port (taken_at attached.index port) (ap (λ one. goes_on one.stage) here) refl)
      (ap (λ one. one.waiting) here)))
  | inr other ↦ lists_other publisher index subscriber attached.publisher (taken_at attached.index) ports other
]
  where
    both : (a b : Bool) → a ≡ true → b ≡ true → a && b ≡ true
    both a b first second = ap (λ one. one && b) first ∙ second

-- nothing more is taken of a connection that isn't there
taken_off : {T U : Type 0} (publisher index subscriber : ℕ) (sent before : List (Message T U)) (port : PublisherPort T U)
    (ports : List (ℕ × PublisherPort T U)) → port_of publisher ports ≡ Some port → leads_at index subscriber port ≡ false
    → Booked publisher index subscriber sent before ports
    → Booked publisher index subscriber sent before (with_port publisher ports (taken_at index port))
taken_off {T} {U} publisher index subscriber sent before port ports there off booked =
    let after : PublisherPort T U = taken_at index port in
    let was : Books index subscriber sent before port = booked.books port there in
    let now : port_of publisher (with_port publisher ports after) ≡ Some after = same_set (at_number publisher) ports after port there in
    let gone : leads_at index subscriber after ≡ false
    = by_parts index subscriber port after (ap (λ one. goes_on one.stage) (taken_set port.sender.uses.connections index)) refl ∙ off in
    let books : Books index subscriber sent before after = record {
      history = was.history;
      numbered = was.numbered;
      last = was.last;
      left = was.left;
      part = λ leads. let no : false ≡ true = sym gone ∙ leads in absurd (cc);
      due = λ leads. let no : false ≡ true = sym gone ∙ leads in absurd (cc);
      idle = λ leads. let no : false ≡ true = sym gone ∙ leads in absurd (cc);
    } in
    let missing : Missing index subscriber sent before after = λ is. booked.missing port there off in
    record {
      sole = sole_set publisher (at_number publisher) ports after booked.sole;
      books = λ found is. subst (λ (one : PublisherPort T U). Books index subscriber sent before one) (one_port after found _ now is) books;
      missing = λ found is. subst (λ (one : PublisherPort T U). Missing index subscriber sent before one)
          (one_port after found _ now is) missing;
    }

-- what a call takes
abbrev pub taken_so : {X : Type 0} → Bool → Bool → List X → List X
taken_so led named waiting = if led then (if named then take 1 waiting else []) else []

so_none : {X : Type 0} (led : Bool) (waiting : List X) → taken_so led false waiting ≡ []
so_none true waiting = refl
so_none false waiting = refl

both_eq : (a b : Bool) → a && b ≡ true → (a ≡ true) × (b ≡ true)
both_eq true b is = (refl, is)
both_eq false b is = cc

found_part : {T U : Type 0} (publisher index subscriber : ℕ) (sent before : List (Message T U)) (found : Option (PublisherPort T U))
    (ports : List (ℕ × PublisherPort T U)) → port_of publisher ports ≡ found → leads_at_port index subscriber found ≡ true
    → Booked publisher index subscriber sent before ports → IsPartOf (before ++ take 1 (connection_in publisher index ports).waiting) sent
found_part publisher index subscriber sent before None ports there led booked = cc
found_part {T} {U} publisher index subscriber sent before (Some port) ports there led booked =
    let waiting : List (Message T U) = (connection_of index port).waiting in
    let all : IsPartOf (before ++ waiting) sent = (booked.books port there).part led in
    let first : IsPartOf (before ++ take 1 waiting) sent
    = part_first (before ++ take 1 waiting) (drop 1 waiting) sent
    (subst (λ (one : List (Message T U)). IsPartOf one sent) (sym (whole before waiting)) all) in
    subst (λ (one : List (Message T U)). IsPartOf (before ++ take 1 one) sent)
    (sym (ap (λ one. (connection_at_port index one).waiting) there)) first

-- the connection that is named gives its oldest
take_named : {T U : Type 0} (publisher index subscriber : ℕ) (old between : List (ℕ × PublisherPort T U))
    (walk : ListBooks publisher index subscriber old between) (sent before : List (Message T U))
    → Booked publisher index subscriber sent before old → (led : Bool)
    → leads_at_port index subscriber (port_of publisher old) ≡ led → (found : Option (PublisherPort T U))
    → port_of publisher between ≡ found → 0 < length (connection_at_port index found).waiting
    → Booked publisher index subscriber sent (before ++ taken_so led true (connection_in publisher index old).waiting)
    (changed_at_port publisher (taken_at index) found between)
take_named publisher index subscriber old between walk sent before booked led is_led None there some = absurd (omega (arith, some))
take_named {T} {U} publisher index subscriber old between walk sent before booked true is_led (Some port) there some =
    let waits : (connection_of index port).waiting ≡ (connection_in publisher index old).waiting = same (walk.waits booked.sole) in
    let result : Booked publisher index subscriber sent (before ++ take 1 (connection_of index port).waiting)
    (with_port publisher between (taken_at index port)) =
    taken_booked publisher index subscriber sent before port between there (walk.keeps sent before booked) (λ off. (
      sym (ap (λ found. port_stands found) there) ∙ walk.lost booked.sole is_led
          (ap (λ found. leads_at_port index subscriber found) there ∙ off),
      subst (λ (one : List (Message T U)). IsPartOf (before ++ take 1 one) sent) (sym waits)
          (found_part publisher index subscriber sent before (port_of publisher old) old refl is_led booked),
    )) in
    subst (λ (one : List (Message T U)). Booked publisher index subscriber sent (before ++ take 1 one)
    (with_port publisher between (taken_at index port))) waits result
  where
    same : ((connection_in publisher index between).waiting ≡ (connection_in publisher index old).waiting)
        ⊎ ((connection_in publisher index between).waiting ≡ [])
        → (connection_of index port).waiting ≡ (connection_in publisher index old).waiting
    same (inl is) = sym (ap (λ found. (connection_at_port index found).waiting) there) ∙ is
    same (inr none) =
        let empty : (connection_of index port).waiting ≡ [] = sym (ap (λ found. (connection_at_port index found).waiting) there) ∙ none in
        absurd (omega (arith, some, ap (λ one. length one) empty))
take_named {T} {U} publisher index subscriber old between walk sent before booked false is_led (Some port) there some
    = by_case (leads_at index subscriber port) refl
  where
    by_case : (leads : Bool) → leads_at index subscriber port ≡ leads
        → Booked publisher index subscriber sent (before ++ []) (with_port publisher between (taken_at index port))
    by_case false off = subst (λ (one : List (Message T U)). Booked publisher index subscriber sent one
        (with_port publisher between (taken_at index port))) (sym (append-nil before))
        (taken_off publisher index subscriber sent before port between there off (walk.keeps sent before booked))
    by_case true on = never (walk.came booked.sole (ap (λ found. leads_at_port index subscriber found) there ∙ on))
      where
        never : (leads_at_port index subscriber (port_of publisher old) ≡ true) ⊎ ((connection_in publisher index between).waiting ≡ [])
            → Booked publisher index subscriber sent (before ++ []) (with_port publisher between (taken_at index port))
        never (inl was) = let no : false ≡ true = sym is_led ∙ was in absurd (cc)
        never (inr none) =
            let empty : (connection_of index port).waiting ≡ []
            = sym (ap (λ found. (connection_at_port index found).waiting) there) ∙ none in
            absurd (omega (arith, some, ap (λ one. length one) empty))

take_step : {T U : Type 0} (publisher index subscriber : ℕ) (attached : Attached) (old between : List (ℕ × PublisherPort T U))
    → ListBooks publisher index subscriber old between → 0 < length (connection_in attached.publisher attached.index between).waiting
    → (sent before : List (Message T U)) → Booked publisher index subscriber sent before old → (led : Bool)
    → leads_at_port index subscriber (port_of publisher old) ≡ led → (named : Bool)
    → ((publisher == attached.publisher) && (index == attached.index)) ≡ named
    → Booked publisher index subscriber sent (before ++ taken_so led named (connection_in publisher index old).waiting)
    (taken_ports (Some attached) between)
take_step {T} {U} publisher index subscriber attached old between walk some sent before booked led is_led false not_named =
    (takes_none publisher index subscriber (taken_so led false (connection_in publisher index old).waiting) between
    (taken_ports (Some attached) between) (so_none led (connection_in publisher index old).waiting)
    (taken_elsewhere publisher index subscriber attached between not_named)).keeps sent before (walk.keeps sent before booked)
take_step {T} {U} publisher index subscriber attached old between walk some sent before booked led is_led true is_named =
    let names = both_eq (publisher == attached.publisher) (index == attached.index) is_named in
    let same_publisher : publisher ≡ attached.publisher = eqb-true publisher attached.publisher names.0 in
    let same_index : index ≡ attached.index = eqb-true index attached.index names.1 in
    let here : 0 < length (connection_in publisher index between).waiting = rw same_publisher (rw same_index some) in
    let result : Booked publisher index subscriber sent (before ++ taken_so led true (connection_in publisher index old).waiting)
    (changed publisher (taken_at index) between) =
    take_named publisher index subscriber old between walk sent before booked led is_led (port_of publisher between) refl here in
    subst (λ (ports : List (ℕ × PublisherPort T U)). Booked publisher index subscriber sent
    (before ++ taken_so led true (connection_in publisher index old).waiting) ports)
    (ap (λ n. changed n (taken_at index) between) same_publisher ∙ ap (λ n. changed attached.publisher (taken_at n) between) same_index)
    result

-- who gives has a message
gives_some : (a b : Bool) → a && b ≡ true → b ≡ true
gives_some true b is = is
gives_some false b is = cc

pub giver_gives : {T U : Type 0} (port : SubscriberPort) (ports : List (ℕ × PublisherPort T U)) (key : ℕ) (attached : Attached)
    → gives port ports key ≡ true → attached_at key port ≡ Some attached
    → 0 < length (connection_in attached.publisher attached.index ports).waiting
giver_gives port ports key attached gives there =
    let has : nat_lt 0 (length (connection_by (attached_at key port) ports).waiting) ≡ true
    = gives_some (is_below port ports key) (has_data port ports key) gives in
    let waits : nat_lt 0 (length (connection_in attached.publisher attached.index ports).waiting) ≡ true
    = sym (ap (λ found. nat_lt 0 (length (connection_by found ports).waiting)) there) ∙ has in
    grind (arith, waits)

-- an answer that tells of no message names no connection
unnamed : {X : Type 0} (waiting : List X) (publisher index : ℕ) (led : Bool) (outcome : Result (Option Taken) ReceiveError)
    (unread : Option ℕ) → outcome ≡ nothing_taken unread → taken_so led (is_named publisher index (Some outcome)) waiting ≡ []
unnamed waiting publisher index led outcome None is
    = ap (λ one. taken_so led (is_named publisher index (Some one)) waiting) is ∙ so_none led waiting
unnamed waiting publisher index led outcome (Some key) is
    = ap (λ one. taken_so led (is_named publisher index (Some one)) waiting) is ∙ so_none led waiting

past_none : (keys : List ℕ) (met one : ℕ) → met ≡ length keys → slice_get keys met ≡ Some one → ⊥
past_none [] met one over is = cc
past_none (x ∷ xs) zero one over is = cc
past_none (x ∷ xs) (suc met) one over is = past_none xs met one (omega (arith, over)) is

got : (keys : List ℕ) (met one : ℕ) → slice_get keys met ≡ Some one → get_or keys met 0 ≡ one
got [] met one is = cc
got (x ∷ xs) zero one is = cc
got (x ∷ xs) (suc met) one is = got xs met one is

-- what a giver gives
giver_step : {T U : Type 0} (publisher index subscriber : ℕ) (port : SubscriberPort) (old between : List (ℕ × PublisherPort T U))
    (found : Option Attached) (key : ℕ) (outcome : Result (Option Taken) ReceiveError) (test : ℕ → Bool)
    → ListBooks publisher index subscriber old between
    → gives port between key ≡ true → attached_at key port ≡ found → IsReceiveAnswer (taken_of port.number found between) test outcome
    → (sent before : List (Message T U)) → Booked publisher index subscriber sent before old → (led : Bool)
    → leads_at_port index subscriber (port_of publisher old) ≡ led
    → Booked publisher index subscriber sent
    (before ++ taken_so led (is_named publisher index (Some outcome)) (connection_in publisher index old).waiting)
    (taken_ports found between)
giver_step publisher index subscriber port old between None key outcome test walk is_giving there answer sent before booked led is_led =
    (takes_none publisher index subscriber
    (taken_so led (is_named publisher index (Some outcome)) (connection_in publisher index old).waiting) between between
    (unnamed (connection_in publisher index old).waiting publisher index led outcome answer.0 answer.2)
    (lists_stay publisher index subscriber between)).keeps
    sent before (walk.keeps sent before booked)
giver_step {T} {U} publisher index subscriber port old between (Some attached) key outcome test walk is_giving there answer sent before
    booked led is_led =
    take_step publisher index subscriber attached old between walk (giver_gives port between key attached is_giving there) sent before
    booked led is_led (is_named publisher index (Some outcome)) (sym (ap (λ one. is_named publisher index (Some one)) answer))

given_step : {T U : Type 0} (publisher index subscriber : ℕ) (port : SubscriberPort) (old between : List (ℕ × PublisherPort T U))
    (giver : Option ℕ) (outcome : Result (Option Taken) ReceiveError) (test : ℕ → Bool) → ListBooks publisher index subscriber old between
    → ((key : ℕ) → giver ≡ Some key → gives port between key ≡ true) → IsReceiveAnswer (given giver port between) test outcome
    → (sent before : List (Message T U)) → Booked publisher index subscriber sent before old → (led : Bool)
    → leads_at_port index subscriber (port_of publisher old) ≡ led
    → Booked publisher index subscriber sent
    (before ++ taken_so led (is_named publisher index (Some outcome)) (connection_in publisher index old).waiting)
    (given_ports giver port between)
given_step publisher index subscriber port old between None outcome test walk is_giving answer sent before booked led is_led =
    (takes_none publisher index subscriber
    (taken_so led (is_named publisher index (Some outcome)) (connection_in publisher index old).waiting) between between
    (unnamed (connection_in publisher index old).waiting publisher index led outcome answer.0 answer.2)
    (lists_stay publisher index subscriber between)).keeps
    sent before (walk.keeps sent before booked)
given_step publisher index subscriber port old between (Some key) outcome test walk is_giving answer sent before booked led is_led =
    giver_step publisher index subscriber port old between (attached_at key port) key outcome test walk (is_giving key refl) refl answer
    sent before booked led is_led

-- who gives is below its limit and has data
pub met_gives : (test : ℕ → Bool) (keys : List ℕ) (met : ℕ) (found giver : Option ℕ) (key : ℕ) → slice_get keys met ≡ found
    → IsMet test keys met → IsGiver found test giver → giver ≡ Some key → test key ≡ true
met_gives test keys met None giver key is_found is_met is_giver is = first giver key is_giver is
  where
    first : (giver : Option ℕ) (key : ℕ) → IsFirst test giver → giver ≡ Some key → test key ≡ true
    first None key is_first is = cc
    first (Some one) key is_first is = let same : one ≡ key = cc in ap test (sym same) ∙ is_first.0
met_gives test keys met (Some one) giver key is_found is_met is_giver is =
    let same : Some one ≡ Some key = sym is_giver ∙ is in
    let is_key : one ≡ key = cc in
    ap test (sym is_key) ∙ reached is_met.1
  where
    reached : (met ≡ length keys) ⊎ ((met < length keys) × (test (get_or keys met 0) ≡ true)) → test one ≡ true
    reached (inl over) = absurd (past_none keys met one over is_found)
    reached (inr there) = ap test (sym (got keys met one is_found)) ∙ there.1

-- one publisher at most stands under its number after each step of a subscriber
sole_walks : {T U : Type 0} (publisher index subscriber reading : ℕ)
    → Walks reading (λ (old : List (ℕ × PublisherPort T U)) (new : List (ℕ × PublisherPort T U)). IsSole publisher old
    → IsSole publisher new)
sole_walks publisher index subscriber reading =
    let walks = book_walks publisher index subscriber reading in
    record {
      stays = λ ports sole. sole;
      on = λ old between new one two sole. two (one sole);
      attach = λ number limit old new answer attaches. (walks.attach number limit old new answer attaches).sole;
      end = λ attached ports. (walks.end attached ports).sole;
    }

sole_taken : {T U : Type 0} (publisher number : ℕ) (step : PublisherPort T U → PublisherPort T U) (found : Option (PublisherPort T U))
    (ports : List (ℕ × PublisherPort T U)) → IsSole publisher ports → IsSole publisher (changed_at_port number step found ports)
sole_taken publisher number step None ports sole = sole
sole_taken publisher number step (Some port) ports sole = sole_set publisher (at_number number) ports (step port) sole

sole_takes : {T U : Type 0} (publisher : ℕ)
    → WalksTaking (λ (old : List (ℕ × PublisherPort T U)) (new : List (ℕ × PublisherPort T U)). IsSole publisher old → IsSole publisher new)
sole_takes publisher attached ports below sole
    = sole_taken publisher attached.publisher (taken_at attached.index) (port_of attached.publisher ports) ports sole

-- a receive after its update
received_step : {T U : Type 0} (publisher index subscriber reading : ℕ) (updated : Result (Unit {0}) ConnectionFailure)
    (port new : SubscriberPort) (old between ports : List (ℕ × PublisherPort T U)) (outcome : Result (Option Taken) ReceiveError)
    → ListBooks publisher index subscriber old between
    → ReceivesAfter updated port between outcome new ports → (sent before : List (Message T U))
    → Booked publisher index subscriber sent before old → (led : Bool) → leads_at_port index subscriber (port_of publisher old) ≡ led
    → Booked publisher index subscriber sent
    (before ++ taken_so led (is_named publisher index (Some outcome)) (connection_in publisher index old).waiting) ports
received_step publisher index subscriber reading (Err failure) port new old between ports outcome walk receives sent before booked led
    is_led =
    rw (receives.2) ((takes_none publisher index subscriber
    (taken_so led (is_named publisher index (Some outcome)) (connection_in publisher index old).waiting) between between
    (ap (λ one. taken_so led (is_named publisher index (Some one)) (connection_in publisher index old).waiting) receives.0 ∙ so_none led
    (connection_in publisher index old).waiting) (lists_stay publisher index subscriber between)).keeps
    sent before (walk.keeps sent before booked))
received_step {T} {U} publisher index subscriber reading (Ok done) port new old between ports outcome walk (answered, serves, is_answer)
    sent before booked led is_led =
    let (met, is_met, giver, is_giver, is_given, is, are, is_there) = serves in
    let answer : IsReceiveAnswer (given giver port between) (has_data new ports) outcome
    = subst (λ (one : Option Taken). IsReceiveAnswer one (has_data new ports) outcome) is_given is_answer in
    let gave = given_step publisher index subscriber port old between giver outcome (has_data new ports) walk
    (λ key named. met_gives (gives port between) port.expired.items met (slice_get port.expired.items met) giver key refl is_met
    is_giver named) answer sent before booked led is_led in
    let swept_books = (walked_swept (book_walks publisher index subscriber reading) 0 met port (given_ports giver port between)).walked in
    rw are (swept_books.keeps sent _ gave)

-- under each number stands one publisher at most still
pub receives_sole : {T U : Type 0} (publisher index subscriber : ℕ) (may : DegradationInfo → DegradationAction → Type 0)
    (listed : List _) (changes : ℕ) (port new : SubscriberPort) (old ports : List (ℕ × PublisherPort T U))
    (outcome : Result (Option Taken) ReceiveError)
    → ReceivesNext may listed changes port old outcome new ports → IsSole publisher old → IsSole publisher ports
receives_sole publisher index subscriber may listed changes port new old ports outcome receives sole =
    (walked_receives (sole_walks publisher index subscriber port.number) (sole_takes publisher) may listed changes port new old ports
    outcome refl receives).walked sole

pub receives_books : {T U : Type 0} (publisher index subscriber : ℕ) (may : DegradationInfo → DegradationAction → Type 0)
    (listed : List _) (changes : ℕ) (port new : SubscriberPort) (old ports : List (ℕ × PublisherPort T U))
    (outcome : Result (Option Taken) ReceiveError)
    → ReceivesNext may listed changes port old outcome new ports → (sent before : List (Message T U))
    → Booked publisher index subscriber sent before old → (led : Bool) → leads_at_port index subscriber (port_of publisher old) ≡ led
    → Booked publisher index subscriber sent
    (before ++ taken_so led (is_named publisher index (Some outcome)) (connection_in publisher index old).waiting) ports
receives_books publisher index subscriber may listed changes port new old ports outcome
    (updated, between, between_ports, updates, after) sent before booked led is_led =
    let walk = (walked_updates (book_walks publisher index subscriber port.number) may listed changes port between old between_ports
    updated refl updates).walked in
    received_step publisher index subscriber port.number updated between new old between_ports ports outcome walk after sent before
    booked led is_led

-- what waits somewhere has a first, which is in the slot that is named
first_of : {T U : Type 0} (waiting : List (Message T U)) → 0 < length waiting → (message : Message T U)
    × (take 1 waiting ≡ message ∷ []) × (get_or (map (λ one. one.slot) waiting) 0 0 ≡ message.slot)
first_of [] some = absurd (omega (arith, some))
first_of (message ∷ rest) some = (message, refl, refl)

-- a connection that has data before and after has the same data
still_waits : {T U : Type 0} (now before : List (Message T U)) → 0 < length now → (now ≡ before) ⊎ (now ≡ []) → now ≡ before
still_waits now before some (inl same) = same
still_waits now before some (inr none) = absurd (omega (arith, some, ap (λ all. length all) none))

-- what a giver gives is the first that waited, and its slot is named
slot_of_giver : {T U : Type 0} (found : Option Attached) (key : ℕ) (port : SubscriberPort) (old between : List (ℕ × PublisherPort T U))
    (given : Taken) → gives port between key ≡ true → attached_at key port ≡ found → Some given ≡ taken_of port.number found between
    → ListBooks given.publisher given.index port.number old between → IsSole given.publisher old
    → (message : Message T U) × (take 1 (connection_in given.publisher given.index old).waiting ≡ message ∷ [])
    × (given.slot ≡ message.slot)
slot_of_giver None key port old between given is_giving there is walk sole = cc
slot_of_giver {T} {U} (Some attached) key port old between given is_giving there is walk sole =
    let publisher : given.publisher ≡ attached.publisher = cc in
    let index : given.index ≡ attached.index = cc in
    let slot : given.slot ≡ get_or (map (λ one. one.slot) (connection_in attached.publisher attached.index between).waiting) 0 0 = cc in
    let waiting : List (Message T U) = (connection_in given.publisher given.index between).waiting in
    let same : waiting ≡ (connection_in attached.publisher attached.index between).waiting =
    ap (λ n. (connection_in n given.index between).waiting) publisher ∙ ap (λ n. (connection_in attached.publisher n between).waiting)
    index in
    let some : 0 < length waiting = omega (arith, giver_gives port between key attached is_giving there, ap (λ all. length all) same) in
    let (message, first, is_slot) = first_of waiting some in
    let before : waiting ≡ (connection_in given.publisher given.index old).waiting
    = still_waits waiting (connection_in given.publisher given.index old).waiting some (walk.waits sole) in
    (message, sym (ap (λ all. take 1 all) before) ∙ first, slot ∙ sym (ap (λ all. get_or (map (λ one. one.slot) all) 0 0) same) ∙ is_slot)

slot_given : {T U : Type 0} (giver : Option ℕ) (port : SubscriberPort) (old between : List (ℕ × PublisherPort T U)) (one : Taken)
    → ((key : ℕ) → giver ≡ Some key → gives port between key ≡ true) → Some one ≡ given giver port between
    → ListBooks one.publisher one.index port.number old between → IsSole one.publisher old
    → (message : Message T U) × (take 1 (connection_in one.publisher one.index old).waiting ≡ message ∷ []) × (one.slot ≡ message.slot)
slot_given None port old between one is_giving is walk sole = cc
slot_given (Some key) port old between one is_giving is walk sole
    = slot_of_giver (attached_at key port) key port old between one (is_giving key refl) refl is walk sole

pub no_message : (unread : Option ℕ) (one : Taken) → Ok (Some one) ≡ nothing_taken unread → ⊥
no_message None one is = cc
no_message (Some key) one is = cc

slot_answered : {T U : Type 0} (answered : Option Taken) (test : ℕ → Bool) (giver : Option ℕ) (port : SubscriberPort)
    (old between : List (ℕ × PublisherPort T U)) (one : Taken) → ((key : ℕ) → giver ≡ Some key → gives port between key ≡ true)
    → answered ≡ given giver port between
    → IsReceiveAnswer answered test (Ok (Some one)) → ListBooks one.publisher one.index port.number old between → IsSole one.publisher old
    → (message : Message T U) × (take 1 (connection_in one.publisher one.index old).waiting ≡ message ∷ []) × (one.slot ≡ message.slot)
slot_answered None test giver port old between one is_giving is answer walk sole = absurd (no_message answer.0 one answer.2)
slot_answered (Some other) test giver port old between one is_giving is answer walk sole =
    let same : Ok (Some one) ≡ Ok (Some other) = answer in
    let is_one : Some one ≡ Some other = cc in
    slot_given giver port old between one is_giving (is_one ∙ is) walk sole

slot_after : {T U : Type 0} (updated : Result (Unit {0}) ConnectionFailure) (port new : SubscriberPort)
    (old between ports : List (ℕ × PublisherPort T U)) (one : Taken) → ReceivesAfter updated port between (Ok (Some one)) new ports
    → ListBooks one.publisher one.index port.number old between → IsSole one.publisher old
    → (message : Message T U) × (take 1 (connection_in one.publisher one.index old).waiting ≡ message ∷ []) × (one.slot ≡ message.slot)
slot_after (Err failure) port new old between ports one receives walk sole = cc (receives.0)
slot_after (Ok done) port new old between ports one (answered, serves, is_answer) walk sole =
    let (met, is_met, giver, is_giver, is_given, is, are, is_there) = serves in
    slot_answered answered (has_data new ports) giver port old between one
    (λ key named. met_gives (gives port between) port.expired.items met (slice_get port.expired.items met) giver key refl is_met
    is_giver named) is_given is_answer walk sole

-- what a receive takes is one message, and its slot is named
pub receives_slot : {T U : Type 0} (may : DegradationInfo → DegradationAction → Type 0) (listed : List _) (changes : ℕ)
    (port new : SubscriberPort) (old ports : List (ℕ × PublisherPort T U)) (one : Taken)
    → ReceivesNext may listed changes port old (Ok (Some one)) new ports → IsSole one.publisher old
    → (message : Message T U) × (take 1 (connection_in one.publisher one.index old).waiting ≡ message ∷ []) × (one.slot ≡ message.slot)
receives_slot may listed changes port new old ports one receives sole =
    let (updated, between, between_ports, updates, after) = receives in
    let walk = walked_updates (book_walks one.publisher one.index port.number port.number) may listed changes port between old
    between_ports updated refl updates in
    slot_after updated between new old between_ports ports one after
    (subst (λ n. ListBooks one.publisher one.index n old between_ports) (sym walk.same) walk.walked) sole
