-- An update follows the list by the place of each port, wherever its list ends.
use Rattle.std.proofs.Common.{arith, ◌≡◌, ◌≢◌, ◌+◌, ◌-◌, ◌<◌, ◌≤◌, ◌==◌, ℕ, zero, suc, Bool, true, false, List, [], ◌∷◌, length, get_or}
use Rattle.std.proofs.Common.{set, Result, Ok, Err, Option, None, Some, refl, sym, ap, ◌∙◌, if◌then◌else◌, inl, inr}
use Rattle.std.proofs.lemmas.Bool.{cases_lt, eqb-true}
use Rattle.std.proofs.lemmas.List.{get_or-set_other, get_or_past, length-set}
use Rattle.std.specs.declared.alloc.AllocError.{AllocError}
use Rattle.iox_domain_slots.specs.Container.declared.container.Member.{Member}
use Rattle.iox_domain_values.specs.declared.connection_failure.ConnectionFailure.{ConnectionFailure}
use Rattle.iox_domain_values.specs.declared.degradation.DegradationAction.{DegradationAction}
use Rattle.iox_domain_values.specs.declared.degradation.DegradationInfo.{DegradationInfo}
use Rattle.iox_domain_ports.specs.Places.{reached}
use Rattle.iox_domain_ports.specs.Ties.{tie_put}
use Rattle.iox_domain_ports.specs.Ports.{connection_of, connection_to, is_live, Joins}
use Rattle.iox_domain_ports.specs.PublisherUpdating.{is_tie_to, let_go_of, untied, untied_from, within_reach, tied, Ties, FollowsTo}
use Rattle.iox_domain_ports.specs.PublisherUpdating.{FollowsAll, UpdatesIf}
use Rattle.iox_domain_ports.specs.UpdateLaws.{TellTheSame, FollowsWhoIsListed}
use Rattle.iox_domain_ports.specs.declared.publisher_port.PublisherPort.{PublisherPort}
use Rattle.iox_domain_ports.specs.declared.subscriber_entry.SubscriberEntry.{SubscriberEntry}
use Rattle.iox_domain_ports.proofs.Enough.{greeted_same, still}

either_ties : {T U : Type 0} (live : Bool) (one other : PublisherPort T U) (ties : List (Option ℕ)) → one.ties.items ≡ ties
    → other.ties.items ≡ ties → (if live then one else other).ties.items ≡ ties
either_ties true one other ties same_one same_other = same_one
either_ties false one other ties same_one same_other = same_other

-- letting go of a place unties just it
let_go_ties : {T U : Type 0} (place : ℕ) (tie : Option ℕ) (port : PublisherPort T U) → get_or port.ties.items place None ≡ tie
    → (let_go_of place tie port).ties.items ≡ set port.ties.items place None
let_go_ties place None port is = sym (set_none place port.ties.items is) where
  set_none : (place : ℕ) (ties : List (Option ℕ)) → get_or ties place None ≡ None → set ties place None ≡ ties
  set_none place [] is = refl
  set_none zero (tie ∷ ties) is = ap (λ one. one ∷ ties) (sym is)
  set_none (suc place) (tie ∷ ties) is = ap (λ rest. tie ∷ rest) (set_none place ties is)
let_go_ties {T} {U} place (Some index) port is =
    let gone : PublisherPort T U = record port { ties = tie_put place None port.ties } in
    either_ties (is_live index gone) _ gone (set port.ties.items place None) refl refl

pub untied_ties : {T U : Type 0} (place : ℕ) (port : PublisherPort T U) → (untied place port).ties.items ≡ set port.ties.items place None
untied_ties place port = let_go_ties place (get_or port.ties.items place None) port refl

-- a place that isn't tied stays as it is, and so does all
untied_none : {T U : Type 0} (place : ℕ) (port : PublisherPort T U) → get_or port.ties.items place None ≡ None → untied place port ≡ port
untied_none place port is = ap (λ tie. let_go_of place tie port) is

-- one more place that lists nobody is as a list that ends before it
end_earlier : {T U : Type 0} (place : ℕ) (port : PublisherPort T U)
    → untied_from (length (untied place port).ties.items - (place + 1)) (place + 1) (untied place port)
    ≡ untied_from (length port.ties.items - place) place port
end_earlier place port =
    let long : length (untied place port).ties.items ≡ length port.ties.items
    = ap (λ ties. length ties) (untied_ties place port) ∙ length-set port.ties.items place None in
    elim (cases_lt place (length port.ties.items)) [
      | inl within ↦
          let count : length port.ties.items - place ≡ suc (length (untied place port).ties.items - (place + 1))
          = omega (arith, within, long) in
          sym (ap (λ n. untied_from n place port) count)
      | inr over ↦
          let before : length port.ties.items - place ≡ zero = omega (arith, over) in
          let after : length (untied place port).ties.items - (place + 1) ≡ zero = omega (arith, over, long) in
          ap (λ n. untied_from n (place + 1) (untied place port)) after ∙ untied_none place port
          (get_or_past port.ties.items place None over) ∙ sym (ap (λ n. untied_from n place port) before)
    ]

no_more : (listed : Option (Member SubscriberEntry)) (rest : List (Option (Member SubscriberEntry))) → TellTheSame [] (listed ∷ rest)
    → TellTheSame [] rest
no_more listed rest tells place = tells (suc place)

-- a list that goes on with nobody
longer : {T U : Type 0} (may : DegradationInfo → DegradationAction → Type 0) (place : ℕ) (more : List (Option (Member SubscriberEntry)))
    (found : Option ConnectionFailure) (old new : PublisherPort T U) (answer : Result (Unit {0}) ConnectionFailure)
    → TellTheSame [] more → FollowsAll may place [] found old answer new → FollowsAll may place more found old answer new
longer may place [] found old new answer tells follows = follows
longer may place (Some member ∷ more) found old new answer tells follows = let no : None ≡ Some member = tells zero in cc
longer may place (None ∷ more) found old new answer tells follows = (
  Ok tt,
  untied place old,
  found,
  (refl, refl),
  refl,
  longer may (place + 1) more found (untied place old) new answer (no_more None more tells)
      (follows.0, follows.1 ∙ sym (end_earlier place old)),
)

-- and one that ends before them
shorter : {T U : Type 0} (may : DegradationInfo → DegradationAction → Type 0) (place : ℕ)
    (more : List (Option (Member SubscriberEntry))) (found : Option ConnectionFailure) (old new : PublisherPort T U)
    (answer : Result (Unit {0}) ConnectionFailure)
    → TellTheSame [] more → FollowsAll may place more found old answer new → FollowsAll may place [] found old answer new
shorter may place [] found old new answer tells follows = follows
shorter may place (Some member ∷ more) found old new answer tells follows = let no : None ≡ Some member = tells zero in cc
shorter {T} {U} may place (None ∷ more) found old new answer tells follows =
    let (outcome, next, after, one, asks, further) = follows in
    let found_same : after ≡ found = rw (one.0) at asks in
    let rest : FollowsAll may (place + 1) more found (untied place old) answer new = rw (one.1) at (rw found_same at further) in
    let ended : FollowsAll may (place + 1) [] found (untied place old) answer new
    = shorter may (place + 1) more found (untied place old) new answer (no_more None more tells) rest in
    (ended.0, ended.1 ∙ end_earlier place old)

follows_same : {T U : Type 0} (may : DegradationInfo → DegradationAction → Type 0) (place : ℕ)
    (one other : List (Option (Member SubscriberEntry))) (found : Option ConnectionFailure) (old new : PublisherPort T U)
    (answer : Result (Unit {0}) ConnectionFailure)
    → TellTheSame one other → FollowsAll may place one found old answer new → FollowsAll may place other found old answer new
follows_same may place [] other found old new answer tells follows = longer may place other found old new answer tells follows
follows_same may place (listed ∷ rest) [] found old new answer tells follows
    = shorter may place (listed ∷ rest) found old new answer (λ at. sym (tells at)) follows
follows_same {T} {U} may place (listed ∷ rest) (other ∷ others) found old new answer tells follows =
    let (outcome, next, after, one, asks, further) = follows in
    let same : listed ≡ other = tells zero in (
      outcome,
      next,
      after,
      rw same at one,
      rw same at asks,
      follows_same may (place + 1) rest others after next new answer
          (λ at. tells (suc at)) further,
    )

updates_same : {T U : Type 0} (may : DegradationInfo → DegradationAction → Type 0) (is_seen : Bool)
    (one other : List (Option (Member SubscriberEntry))) (changes : ℕ) (old new : PublisherPort T U)
    (answer : Result (Unit {0}) ConnectionFailure)
    → TellTheSame one other → UpdatesIf is_seen may one changes old answer new → UpdatesIf is_seen may other changes old answer new
updates_same may true one other changes old new answer tells updates = updates
updates_same may false one other changes old new answer tells updates
    = follows_same may 0 one other None (record old { seen = changes }) new answer tells updates

-- a connection that is joined changes no tie
joined_ties : {T U : Type 0} (subscriber limit index : ℕ) (found : Option ℕ) (old joined : PublisherPort T U)
    → Joins subscriber limit found old (Ok index) joined → joined.ties.items ≡ old.ties.items
joined_ties subscriber limit index None old joined joins = ap (λ port. port.ties.items) joins.2
joined_ties subscriber limit index (Some there) old joined joins = ap (λ port. port.ties.items) joins.1

tied_ties : {T U : Type 0} (place index : ℕ) (port : PublisherPort T U)
    → (tied place index port).ties.items ≡ set port.ties.items place (Some index)
tied_ties {T} {U} place index port =
    let given : PublisherPort T U = record port { ties = tie_put place (Some index) port.ties } in
    ap (λ ties. ties.items) (greeted_same index (is_live index given) (connection_of index given).waiting given).0

-- tying a place ties no other
ties_others : {T U : Type 0} (place other : ℕ) (entry : SubscriberEntry) (old new : PublisherPort T U)
    (outcome : Result (Unit {0}) AllocError) → other ≢ place → Ties place entry old outcome new
    → get_or new.ties.items other None ≡ get_or old.ties.items other None
ties_others place other entry old new (Err error) not ties = ap (λ port. get_or port.ties.items other None) ties.1
ties_others {T} {U} place other entry old new (Ok done) not ties =
    let (index, joined, joins, is) = ties in
    let same : joined.ties.items ≡ reached (place + 1) old.ties.items
    = joined_ties entry.subscriber _ index (connection_to entry.subscriber old) (within_reach place old) joined joins in
    ap (λ port. get_or port.ties.items other None) is ∙ ap (λ all. get_or all other None) (tied_ties place index joined) ∙
    get_or-set_other joined.ties.items place other (Some index) None not
    ∙ ap (λ all. get_or all other None) same ∙ still old.ties.items (place + 1 - length old.ties.items) other

-- following a place ties no other
follows_to_others : {T U : Type 0} (place other : ℕ) (entry : SubscriberEntry) (is_tie : Bool) (old new : PublisherPort T U)
    (outcome : Result (Unit {0}) AllocError) → other ≢ place → FollowsTo place entry is_tie old outcome new
    → get_or new.ties.items other None ≡ get_or old.ties.items other None
follows_to_others place other entry true old new outcome not follows = ap (λ port. get_or port.ties.items other None) follows.1
follows_to_others place other entry false old new outcome not follows =
    ties_others place other entry (untied place old) new outcome not follows
    ∙ ap (λ all. get_or all other None) (untied_ties place old) ∙ get_or-set_other old.ties.items place other None None not

-- a place that is untied has no tie
none_there : (place : ℕ) (ties : List (Option ℕ)) → get_or (set ties place None) place None ≡ (let none : Option ℕ = None in none)
none_there place [] = refl
none_there zero (tie ∷ ties) = refl
none_there (suc place) (tie ∷ ties) = none_there place ties

none_still : {T U : Type 0} (place other : ℕ) (port : PublisherPort T U) → (other ≢ place → get_or port.ties.items other None ≡ None)
    → get_or (untied place port).ties.items other None ≡ None
none_still place other port none = elim (cases_lt other place) [
  | inl below ↦ away (omega (arith, below))
  | inr from ↦ elim (cases_lt place other) [
    | inl above ↦ away (omega (arith, above))
    | inr to ↦
        let same : other ≡ place = omega (arith, from, to) in
        ap (λ all. get_or all other None) (untied_ties place port) ∙ ap (λ at. get_or (set port.ties.items place None) at None) same ∙
        none_there place port.ties.items
  ]
]
  where
    away : other ≢ place → get_or (untied place port).ties.items other None ≡ None
    away not = ap (λ all. get_or all other None) (untied_ties place port) ∙ get_or-set_other port.ties.items place other None None not ∙
        none not

-- places after the end of the list aren't tied in the end
cleared : {T U : Type 0} (count first other : ℕ) (port : PublisherPort T U) → length port.ties.items ≤ first + count
    → (other < first → get_or port.ties.items other None ≡ None)
    → get_or (untied_from count first port).ties.items other None ≡ None
cleared zero first other port all before = elim (cases_lt other first) [
  | inl below ↦ before below
  | inr from ↦ get_or_past port.ties.items other None (omega (arith, all, from))
]
cleared (suc count) first other port all before =
    cleared count (first + 1) other (untied first port)
    (omega (arith, all, ap (λ ties. length ties) (untied_ties first port), length-set port.ties.items first None))
    (λ below. none_still first other port (λ not. before (omega (arith, below, not))))

follows_none : {T U : Type 0} (may : DegradationInfo → DegradationAction → Type 0) (listed : List (Option (Member SubscriberEntry)))
    (first other : ℕ) (found : Option ConnectionFailure) (old new : PublisherPort T U) (answer : Result (Unit {0}) ConnectionFailure)
    → (other < first → get_or old.ties.items other None ≡ None) → ((k : ℕ) → other ≡ first + k → get_or listed k None ≡ None)
    → FollowsAll may first listed found old answer new → get_or new.ties.items other None ≡ None
follows_none may [] first other found old new answer before none follows =
    ap (λ port. get_or port.ties.items other None) follows.1 ∙ cleared (length old.ties.items - first) first other old (omega arith) before
follows_none {T} {U} may (None ∷ rest) first other found old new answer before none follows =
    let (outcome, next, after, one, asks, further) = follows in
    follows_none may rest (first + 1) other after next new answer
    (λ below. ap (λ port. get_or port.ties.items other None) one.1 ∙ none_still first other old (λ not. before (omega (arith, below, not))))
    (λ k is. none (suc k) (omega (arith, is))) further
follows_none {T} {U} may (Some member ∷ rest) first other found old new answer before none follows =
    let (outcome, next, after, one, asks, further) = follows in
    let not : other ≢ first = λ same. let no : Some member ≡ None = none zero (omega (arith, same)) in cc in
    follows_none may rest (first + 1) other after next new answer
    (λ below. follows_to_others first other member.value (is_tie_to member.value.subscriber (get_or old.ties.items first None) old) old
    next outcome not one ∙ before (omega (arith, below, not)))
    (λ k is. none (suc k) (omega (arith, is))) further

updates_none : {T U : Type 0} (may : DegradationInfo → DegradationAction → Type 0) (is_seen : Bool)
    (listed : List (Option (Member SubscriberEntry))) (changes other : ℕ) (old new : PublisherPort T U)
    (answer : Result (Unit {0}) ConnectionFailure)
    → (old.seen == changes) ≡ is_seen → old.seen ≢ changes → UpdatesIf is_seen may listed changes old answer new
    → get_or listed other None ≡ None → get_or new.ties.items other None ≡ None
updates_none may true listed changes other old new answer is not updates none = absurd (not (eqb-true old.seen changes is))
updates_none may false listed changes other old new answer is not updates none =
    follows_none may listed 0 other None (record old { seen = changes }) new answer (λ below. absurd (omega (arith, below)))
    (λ k at. ap (λ place. get_or listed place None) (sym (at ∙ omega arith)) ∙ none) updates

pub follows_who_is_listed : {T U : Type 0} (may : DegradationInfo → DegradationAction → Type 0) → FollowsWhoIsListed T U may
follows_who_is_listed may = record {
  same = λ one other changes old new answer tells updates. updates_same may (old.seen == changes) one other changes old new answer tells
      updates;
  none = λ listed changes place old new answer not updates none. updates_none may (old.seen == changes) listed changes place old new
      answer refl not updates none;
}
