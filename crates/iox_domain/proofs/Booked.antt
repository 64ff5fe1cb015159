-- What each step of a subscriber leaves of what a publisher and one of its connections keep.
use Rattle.std.proofs.Common.{arith, ◌≡◌, ◌≢◌, ◌+◌, ◌<◌, ◌≤◌, ◌&&◌, ◌⊎◌, ◌==◌, ◌∷◌, [], ◌++◌, append-nil, ℕ, zero, suc, Bool, true, false}
use Rattle.std.proofs.Common.{List, get_or, set, length, Option, None, Some, Ok, refl, sym, ap, ◌∙◌, subst, if◌then◌else◌, inl, inr}
use Rattle.std.proofs.lemmas.Bool.{cases_eq, cases_lt, eqb-true}
use Rattle.std.proofs.lemmas.List.{get_or-set_other, get_or-set_same, get_or_past, length-set}
use Rattle.std.proofs.lemmas.List.Quantifiers.{position-Some}
use Rattle.std.specs.List.{remove}
use Rattle.iox_domain.specs.DomainSlots.Uses.{Connection, nobody, given_back, ended, settled}
use Rattle.iox_domain.specs.DomainSlots.declared.stage.Stage.{Stage}
use Rattle.iox_domain.specs.DomainSlots.declared.stage.Stage.TheVariants as stage
use Rattle.iox_domain.specs.DomainPorts.Messages.{Message}
use Rattle.iox_domain.specs.DomainPorts.Leaving.{parted_at, parted_from, departed}
use Rattle.iox_domain.specs.DomainPorts.Places.{leads_to, left, is_attached}
use Rattle.iox_domain.specs.DomainPorts.Ports.{connection_of, connection_to, goes_on, is_live, with_connection_of, detached_at, ended_at}
use Rattle.iox_domain.specs.DomainPorts.Ports.{unread_at}
use Rattle.iox_domain.specs.DomainPorts.Ties.{has_tie}
use Rattle.iox_domain.proofs.DomainPorts.Untied.{none_tied}
use Rattle.iox_domain.specs.DomainPorts.Ports.{Joins, attached_at}
use Rattle.iox_domain.specs.DomainPorts.declared.publisher_port.PublisherPort.{PublisherPort}
use Rattle.iox_domain.specs.DomainPorts.declared.reader.Reader.{Reader}
use Rattle.iox_domain.specs.DomainPorts.Reading.{given_back_at}
use Rattle.iox_domain.specs.Order.{IsPartOf, leads_at}
use Rattle.iox_domain.specs.Gaps.{AreNumbered}
use Rattle.iox_domain.proofs.Books.{Books, Missing}
use Rattle.iox_domain.proofs.PortLawsParts.{part_first, part_nothing}
use Rattle.iox_domain.proofs.TiedWell.{gone_there}
use Rattle.iox_domain.proofs.TiedUpdates.{MadeAt, connects_made, ok_same, found_leads}
use Rattle.iox_domain.proofs.WellKept.{left_leads, settled_goes}

-- The progress of the publisher's send doesn't change. If the connection exists afterwards, it existed before and has the same
-- waiting messages, or it is new; it is removed only if the publisher left.
pub record Steady {T U : Type 0} (index subscriber : ℕ) (old new : PublisherPort T U) : Type 0 where
  pub sending : new.sender.uses.sending ≡ old.sender.uses.sending
  pub history : new.sender.uses.history ≡ old.sender.uses.history
  pub sequence : new.last_sequence ≡ old.last_sequence
  pub stands : new.stands ≡ old.stands
  pub place : new.progress.place ≡ old.progress.place
  pub ties : new.ties ≡ old.ties
  pub leads : leads_at index subscriber new ≡ true
      → ((leads_at index subscriber old ≡ true) × ((connection_of index new).waiting ≡ (connection_of index old).waiting))
      ⊎ ((leads_at index subscriber old ≡ false) × ((connection_of index new).waiting ≡ []))
  pub lost : leads_at index subscriber new ≡ false → leads_at index subscriber old ≡ true → old.stands ≡ false
  pub waits : ((connection_of index new).waiting ≡ (connection_of index old).waiting) ⊎ ((connection_of index new).waiting ≡ [])

-- What stays true of a publisher after a step.
pub record PortBooks {T U : Type 0} (index subscriber : ℕ) (old new : PublisherPort T U) : Type 0 where
  pub keeps : (sent taken : List (Message T U)) → Books index subscriber sent taken old → Missing index subscriber sent taken old
      → Books index subscriber sent taken new × Missing index subscriber sent taken new
  pub waits : ((connection_of index new).waiting ≡ (connection_of index old).waiting) ⊎ ((connection_of index new).waiting ≡ [])
  pub came : leads_at index subscriber new ≡ true → (leads_at index subscriber old ≡ true) ⊎ ((connection_of index new).waiting ≡ [])
  pub lost : leads_at index subscriber old ≡ true → leads_at index subscriber new ≡ false → new.stands ≡ false
  pub left : old.stands ≡ false → new.stands ≡ false

steady_books : {T U : Type 0} (index subscriber : ℕ) (sent taken : List (Message T U)) (old new : PublisherPort T U)
    → Steady index subscriber old new → Books index subscriber sent taken old → Missing index subscriber sent taken old
    → Books index subscriber sent taken new
steady_books {T} {U} index subscriber sent taken old new steady books missing = record {
  history = subst (λ (all : List (Message T U)). IsPartOf all sent) (sym steady.history) books.history;
  numbered = subst (λ last. AreNumbered sent last) (sym steady.sequence) books.numbered;
  last = λ message sending. books.last message (sym steady.sending ∙ sending);
  left = λ left. steady.sending ∙ books.left (sym steady.stands ∙ left);
  part = λ leads. part (steady.leads leads);
  due = λ leads message before sending is place from tie. due (steady.leads leads) message before (sym steady.sending ∙ sending) is
      place (omega (arith, from, steady.place)) (ap (λ ties. get_or ties.items place None) (sym steady.ties) ∙ tie);
  idle = λ leads stands untied. idle (steady.leads leads) (sym steady.stands ∙ stands)
      (λ place tie. untied place (ap (λ ties. get_or ties.items place None) steady.ties ∙ tie));
}
  where
    Lead : Type 0
    Lead = ((leads_at index subscriber old ≡ true) × ((connection_of index new).waiting ≡ (connection_of index old).waiting))
        ⊎ ((leads_at index subscriber old ≡ false) × ((connection_of index new).waiting ≡ []))

    alone : (connection_of index new).waiting ≡ [] → taken ≡ taken ++ (connection_of index new).waiting
    alone none = sym (ap (λ all. taken ++ all) none ∙ append-nil taken)

    part : Lead → IsPartOf (taken ++ (connection_of index new).waiting) sent
    part (inl was) = subst (λ (all : List (Message T U)). IsPartOf (taken ++ all) sent) (sym was.1) (books.part was.0)
    part (inr new_there) = taken_part (missing new_there.0)
      where
        taken_part : (taken ≡ []) ⊎ ((old.stands ≡ false) × IsPartOf taken sent)
            → IsPartOf (taken ++ (connection_of index new).waiting) sent
        taken_part (inl none) = part_nothing _ sent (sym (alone new_there.1) ∙ none)
        taken_part (inr gone) = subst (λ (all : List (Message T U)). IsPartOf all sent) (alone new_there.1) gone.1

    due : Lead → (message : Message T U) (before : List (Message T U)) → old.sender.uses.sending ≡ Some message
        → sent ≡ before ++ message ∷ [] → (place : ℕ) → old.progress.place ≤ place → get_or old.ties.items place None ≡ Some index
        → IsPartOf (taken ++ (connection_of index new).waiting) before
    due (inl was) message before sending is place from tie
        = subst (λ (all : List (Message T U)). IsPartOf (taken ++ all) before) (sym was.1)
        (books.due was.0 message before sending is place from tie)
    due (inr new_there) message before sending is place from tie = none_due (missing new_there.0)
      where
        none_due : (taken ≡ []) ⊎ ((old.stands ≡ false) × IsPartOf taken sent)
            → IsPartOf (taken ++ (connection_of index new).waiting) before
        none_due (inl none) = part_nothing _ before (sym (alone new_there.1) ∙ none)
        none_due (inr gone) = let no : None ≡ Some message = sym (books.left gone.0) ∙ sending in absurd (cc)

    idle : Lead → old.stands ≡ true → ((place : ℕ) → get_or old.ties.items place None ≢ Some index)
        → taken ++ (connection_of index new).waiting ≡ []
    idle (inl was) stands untied = ap (λ all. taken ++ all) was.1 ∙ books.idle was.0 stands untied
    idle (inr new_there) stands untied = none_idle (missing new_there.0)
      where
        none_idle : (taken ≡ []) ⊎ ((old.stands ≡ false) × IsPartOf taken sent) → taken ++ (connection_of index new).waiting ≡ []
        none_idle (inl none) = sym (alone new_there.1) ∙ none
        none_idle (inr gone) = let no : true ≡ false = sym stands ∙ gone.0 in absurd (cc)

steady_missing : {T U : Type 0} (index subscriber : ℕ) (sent taken : List (Message T U)) (old new : PublisherPort T U)
    → Steady index subscriber old new → Books index subscriber sent taken old → Missing index subscriber sent taken old
    → Missing index subscriber sent taken new
steady_missing {T} {U} index subscriber sent taken old new steady books missing off = by_case (leads_at index subscriber old) refl
  where
    by_case : (led : Bool) → leads_at index subscriber old ≡ led → (taken ≡ []) ⊎ ((new.stands ≡ false) × IsPartOf taken sent)
    by_case true led = inr (steady.stands ∙ steady.lost off led, part_first taken (connection_of index old).waiting sent (books.part led))
    by_case false led = on (missing led)
      where
        on : (taken ≡ []) ⊎ ((old.stands ≡ false) × IsPartOf taken sent) → (taken ≡ []) ⊎ ((new.stands ≡ false) × IsPartOf taken sent)
        on (inl none) = inl none
        on (inr gone) = inr (steady.stands ∙ gone.0, gone.1)

pub steady_port : {T U : Type 0} (index subscriber : ℕ) (old new : PublisherPort T U) → Steady index subscriber old new
    → PortBooks index subscriber old new
steady_port {T} {U} index subscriber old new steady = record {
  keeps = λ sent taken books missing. (
    steady_books index subscriber sent taken old new steady books missing,
    steady_missing index subscriber sent taken old new steady
        books missing,
  );
  waits = steady.waits;
  came = λ leads. led (steady.leads leads);
  lost = λ led off. steady.stands ∙ steady.lost off led;
  left = λ left. steady.stands ∙ left;
}
  where
    led : ((leads_at index subscriber old ≡ true) × ((connection_of index new).waiting ≡ (connection_of index old).waiting))
        ⊎ ((leads_at index subscriber old ≡ false) × ((connection_of index new).waiting ≡ []))
        → (leads_at index subscriber old ≡ true) ⊎ ((connection_of index new).waiting ≡ [])
    led (inl was) = inl was.0
    led (inr new_there) = inr new_there.1

-- the connection and its reader are as they were
pub steady_alike : {T U : Type 0} (index subscriber : ℕ) (old new : PublisherPort T U)
    → new.sender.uses.sending ≡ old.sender.uses.sending → new.sender.uses.history ≡ old.sender.uses.history
    → new.last_sequence ≡ old.last_sequence → new.stands ≡ old.stands → new.progress.place ≡ old.progress.place
    → new.ties ≡ old.ties → leads_at index subscriber new ≡ leads_at index subscriber old
    → (connection_of index new).waiting ≡ (connection_of index old).waiting → Steady index subscriber old new
steady_alike index subscriber old new sending history sequence stands place ties leads waits = record {
  sending = sending;
  history = history;
  sequence = sequence;
  stands = stands;
  place = place;
  ties = ties;
  leads = λ led. inl (sym leads ∙ led, waits);
  lost = λ off led. let no : false ≡ true = sym off ∙ leads ∙ led in absurd (cc);
  waits = inl waits;
}

pub steady_is : {T U : Type 0} (index subscriber : ℕ) (old new : PublisherPort T U) → new ≡ old → Steady index subscriber old new
steady_is index subscriber old new is =
    steady_alike index subscriber old new (ap (λ port. port.sender.uses.sending) is) (ap (λ port. port.sender.uses.history) is)
    (ap (λ port. port.last_sequence) is) (ap (λ port. port.stands) is) (ap (λ port. port.progress.place) is) (ap (λ port. port.ties) is)
    (ap (λ port. leads_at index subscriber port) is) (ap (λ port. (connection_of index port).waiting) is)

pub by_parts : {T U : Type 0} (index subscriber : ℕ) (old new : PublisherPort T U)
    → goes_on (connection_of index new).stage ≡ goes_on (connection_of index old).stage
    → leads_to subscriber (get_or new.readers index None) ≡ leads_to subscriber (get_or old.readers index None)
    → leads_at index subscriber new ≡ leads_at index subscriber old
by_parts index subscriber old new live leads
    = ap (λ b. b && leads_to subscriber (get_or new.readers index None)) live ∙ ap (λ b. is_live index old && b) leads

-- nobody reads there any longer
unread_steady : {T U : Type 0} (index subscriber at : ℕ) (port : PublisherPort T U)
    → Steady index subscriber port (unread_at at port)
unread_steady index subscriber at port =
    steady_alike index subscriber port (unread_at at port) refl refl refl refl refl refl
    (by_parts index subscriber port (unread_at at port) refl (left_leads subscriber at index port.readers)) refl

-- a connection ends, where the publisher left
ended_waits : {T U : Type 0} (limit : ℕ) (borrowed : List (Message T U)) → (settled stage.Ended limit [] borrowed).waiting ≡ []
ended_waits limit [] = refl
ended_waits limit (x ∷ xs) = refl

and_false : (a b : Bool) → b ≡ false → a && b ≡ false
and_false true b is = is
and_false false b is = refl

set_here : {X : Type 0} (xs : List X) (at : ℕ) (x d : X) → (get_or (set xs at x) at d ≡ x) ⊎ (get_or (set xs at x) at d ≡ get_or xs at d)
set_here xs at x d = elim (cases_lt at (length xs)) [
  | inl within ↦ inl (get_or-set_same xs at x d within)
  | inr past ↦ inr (get_or_past (set xs at x) at d (omega (arith, past, length-set xs at x)) ∙ sym (get_or_past xs at d past))
]

ended_steady_by : {T U : Type 0} (index subscriber at : ℕ) (live : Bool) (port : PublisherPort T U) → port.stands ≡ false
    → Steady index subscriber port (if live then record (with_connection_of at (ended (connection_of at port)) port)
    { readers = set port.readers at None } else port)
ended_steady_by index subscriber at false port left = steady_is index subscriber port port refl
ended_steady_by {T} {U} index subscriber at true port left =
    let new : PublisherPort T U = record (with_connection_of at (ended (connection_of at port)) port)
    { readers = set port.readers at None } in
    elim (cases_eq index at) [
      | inl same ↦
          let dead : leads_at index subscriber new ≡ false
          = ap (λ n. leads_at n subscriber new) same ∙ and_false (is_live at new) _
          (ap (λ reader. leads_to subscriber reader) (gone_there port.readers at)) in
          record {
            sending = refl;
            history = refl;
            sequence = refl;
            stands = refl;
            place = refl;
            ties = refl;
            leads = λ led. let no : false ≡ true = sym dead ∙ led in absurd (cc);
            lost = λ off led. left;
            waits = waits same (set_here port.sender.uses.connections at (ended (connection_of at port)) nobody);
          }
      | inr not ↦
          let same : connection_of index new ≡ connection_of index port
          = get_or-set_other port.sender.uses.connections at index (ended (connection_of at port)) nobody not in
          steady_alike index subscriber port new refl refl refl refl refl refl
          (by_parts index subscriber port new (ap (λ one. goes_on one.stage) same)
          (ap (λ reader. leads_to subscriber reader) (get_or-set_other port.readers at index None None not)))
          (ap (λ one. one.waiting) same)
    ]
  where
    waits : index ≡ at → (get_or (set port.sender.uses.connections at (ended (connection_of at port))) at nobody
        ≡ ended (connection_of at port))
        ⊎ (get_or (set port.sender.uses.connections at (ended (connection_of at port))) at nobody
        ≡ get_or port.sender.uses.connections at nobody)
        → ((get_or (set port.sender.uses.connections at (ended (connection_of at port))) index nobody).waiting
        ≡ (connection_of index port).waiting)
        ⊎ ((get_or (set port.sender.uses.connections at (ended (connection_of at port))) index nobody).waiting ≡ [])
    waits same (inl is) = inr (ap (λ n. (get_or (set port.sender.uses.connections at (ended (connection_of at port))) n nobody).waiting)
        same ∙ ap (λ one. one.waiting) is ∙ ended_waits (connection_of at port).limit (connection_of at port).borrowed)
    waits same (inr is) = inl (ap (λ n. (get_or (set port.sender.uses.connections at (ended (connection_of at port))) n nobody).waiting)
        same ∙ ap (λ one. one.waiting) is ∙ ap (λ n. (connection_of n port).waiting) (sym same))

pub if_left_steady : {T U : Type 0} (index subscriber at : ℕ) (stands : Bool) (port : PublisherPort T U) → port.stands ≡ stands
    → Steady index subscriber port (if stands then port else ended_at at port)
if_left_steady index subscriber at true port is = steady_is index subscriber port port refl
if_left_steady index subscriber at false port is = ended_steady_by index subscriber at (is_live at port) port is

-- What stays true of a publisher after a step that may remove a connection of an existing publisher.
abbrev pub PortKept : {T U : Type 0} → ℕ → ℕ → PublisherPort T U → PublisherPort T U → Type 0
PortKept {T} {U} index subscriber old new = (sent taken : List (Message T U)) → Books index subscriber sent taken old
    → Missing index subscriber sent taken old → Books index subscriber sent taken new × Missing index subscriber sent taken new

-- nothing was taken from a connection to which no place is tied, so nothing is missing where it ends
gone_kept : {T U : Type 0} (index subscriber at : ℕ) (port : PublisherPort T U)
    → ((place : ℕ) → get_or port.ties.items place None ≢ Some at)
    → PortKept index subscriber port (record (with_connection_of at (ended (connection_of at port)) port)
    { readers = set port.readers at None })
gone_kept {T} {U} index subscriber at port untied sent taken books missing =
    let new : PublisherPort T U = record (with_connection_of at (ended (connection_of at port)) port)
    { readers = set port.readers at None } in
    elim (cases_eq index at) [
      | inl same ↦
          let dead : leads_at index subscriber new ≡ false
          = ap (λ n. leads_at n subscriber new) same ∙ and_false (is_live at new) _
          (ap (λ reader. leads_to subscriber reader) (gone_there port.readers at)) in (
            record {
              history = books.history;
              numbered = books.numbered;
              last = books.last;
              left = books.left;
              part = λ led. let no : false ≡ true = sym dead ∙ led in absurd (cc);
              due = λ led message before sending is place from tie. let no : false ≡ true = sym dead ∙ led in absurd (cc);
              idle = λ led stands none. let no : false ≡ true = sym dead ∙ led in absurd (cc);
            },
            λ off. nothing same (leads_at index subscriber port) refl port.stands refl,
          )
      | inr not ↦
          let same : connection_of index new ≡ connection_of index port
          = get_or-set_other port.sender.uses.connections at index (ended (connection_of at port)) nobody not in
          (steady_port index subscriber port new
          (steady_alike index subscriber port new refl refl refl refl refl refl
          (by_parts index subscriber port new (ap (λ one. goes_on one.stage) same)
          (ap (λ reader. leads_to subscriber reader) (get_or-set_other port.readers at index None None not)))
          (ap (λ one. one.waiting) same))).keeps sent taken books missing
    ]
  where
    first_none : (xs ys : List (Message T U)) → xs ++ ys ≡ [] → xs ≡ []
    first_none [] ys is = refl
    first_none (x ∷ xs) ys is = cc

    nothing : index ≡ at → (led : Bool) → leads_at index subscriber port ≡ led → (stands : Bool) → port.stands ≡ stands
        → (taken ≡ []) ⊎ ((port.stands ≡ false) × IsPartOf taken sent)
    nothing same false led stands standing = missing led
    nothing same true led false standing
        = inr (standing, part_first taken (connection_of index port).waiting sent (books.part led))
    nothing same true led true standing = inl (first_none taken (connection_of index port).waiting
        (books.idle led standing (λ place tie. untied place (tie ∙ ap (λ n. Some n) same))))

ended_kept : {T U : Type 0} (index subscriber at : ℕ) (live : Bool) (port : PublisherPort T U)
    → ((place : ℕ) → get_or port.ties.items place None ≢ Some at)
    → PortKept index subscriber port (if live then record (with_connection_of at (ended (connection_of at port)) port)
    { readers = set port.readers at None } else port)
ended_kept index subscriber at true port untied = gone_kept index subscriber at port untied
ended_kept index subscriber at false port untied = λ sent taken books missing. (books, missing)

detached_by : {T U : Type 0} (index subscriber at : ℕ) (tied : Bool) (port : PublisherPort T U) → has_tie at port.ties ≡ tied
    → PortKept index subscriber port (if tied then unread_at at port else ended_at at port)
detached_by index subscriber at true port is
    = (steady_port index subscriber port (unread_at at port) (unread_steady index subscriber at port)).keeps
detached_by index subscriber at false port is = ended_kept index subscriber at (is_live at port) port (none_tied at port.ties is)

pub detached_kept : {T U : Type 0} (index subscriber at : ℕ) (port : PublisherPort T U)
    → PortKept index subscriber port (detached_at at port)
detached_kept index subscriber at port = detached_by index subscriber at (has_tie at port.ties) port refl

-- a message is given back
settled_waits : {T U : Type 0} (now : Stage) (limit : ℕ) (waiting borrowed : List (Message T U))
    → ((settled now limit waiting borrowed).waiting ≡ waiting) ⊎ ((settled now limit waiting borrowed).waiting ≡ [])
settled_waits stage.Ended limit waiting [] = inr refl
settled_waits stage.Ended limit waiting (x ∷ xs) = inl refl
settled_waits stage.Live limit waiting borrowed = inl refl
settled_waits stage.Vacant limit waiting borrowed = inl refl

settled_live : {T U : Type 0} (now : Stage) (limit : ℕ) (waiting borrowed : List (Message T U)) → goes_on now ≡ true
    → (settled now limit waiting borrowed).waiting ≡ waiting
settled_live stage.Ended limit waiting borrowed live = cc
settled_live stage.Live limit waiting borrowed live = refl
settled_live stage.Vacant limit waiting borrowed live = cc

first_true : (a b : Bool) → a && b ≡ true → a ≡ true
first_true true b is = refl
first_true false b is = cc

pub given_back_steady : {T U : Type 0} (index subscriber at : ℕ) (place : Option ℕ) (port : PublisherPort T U)
    → Steady index subscriber port (given_back_at at place port)
given_back_steady index subscriber at None port = steady_is index subscriber port port refl
given_back_steady {T} {U} index subscriber at (Some place) port =
    let was : Connection (Message T U) = connection_of at port in
    let back : Connection (Message T U) = given_back place was in
    let new : PublisherPort T U = given_back_at at (Some place) port in
    elim (cases_eq index at) [
      | inl same ↦ elim (set_here port.sender.uses.connections at back nobody) [
        | inl is ↦
            let here : connection_of index new ≡ back = ap (λ n. connection_of n new) same ∙ is in
            let live : leads_at index subscriber new ≡ leads_at index subscriber port =
            by_parts index subscriber port new (ap (λ one. goes_on one.stage) here ∙ settled_goes was.stage was.limit was.waiting
            (remove was.borrowed place) ∙ ap (λ n. goes_on (connection_of n port).stage) (sym same)) refl in
            record {
              sending = refl;
              history = refl;
              sequence = refl;
              stands = refl;
              place = refl;
              ties = refl;
              leads = λ led. inl (
                sym live ∙ led,
                ap (λ one. one.waiting) here
                    ∙ settled_live was.stage was.limit was.waiting (remove was.borrowed place)
                    (ap (λ n. goes_on (connection_of n port).stage) (sym same) ∙ first_true (is_live index port) _ (sym live ∙ led))
                    ∙ ap (λ n. (connection_of n port).waiting) (sym same),
              );
              lost = λ off led. let no : false ≡ true = sym off ∙ live ∙ led in absurd (cc);
              waits = waits_by same (ap (λ one. one.waiting) here)
                  (settled_waits was.stage was.limit was.waiting (remove was.borrowed place));
            }
        | inr is ↦
            let here : connection_of index new ≡ connection_of index port
            = ap (λ n. connection_of n new) same ∙ is ∙ ap (λ n. connection_of n port) (sym same) in
            steady_alike index subscriber port new refl refl refl refl refl refl
            (by_parts index subscriber port new (ap (λ one. goes_on one.stage) here) refl) (ap (λ one. one.waiting) here)
      ]
      | inr not ↦
          let here : connection_of index new ≡ connection_of index port
          = get_or-set_other port.sender.uses.connections at index back nobody not in
          steady_alike index subscriber port new refl refl refl refl refl refl
          (by_parts index subscriber port new (ap (λ one. goes_on one.stage) here) refl) (ap (λ one. one.waiting) here)
    ]
  where
    waits_by : index ≡ at → (connection_of index (given_back_at at (Some place) port)).waiting
        ≡ (given_back place (connection_of at port)).waiting
        → ((given_back place (connection_of at port)).waiting ≡ (connection_of at port).waiting)
        ⊎ ((given_back place (connection_of at port)).waiting ≡ [])
        → ((connection_of index (given_back_at at (Some place) port)).waiting ≡ (connection_of index port).waiting)
        ⊎ ((connection_of index (given_back_at at (Some place) port)).waiting ≡ [])
    waits_by same is (inl kept) = inl (is ∙ kept ∙ ap (λ n. (connection_of n port).waiting) (sym same))
    waits_by same is (inr none) = inr (is ∙ none)

-- a subscriber attaches
same_leads : (one other : ℕ) (found : Option Reader) → leads_to one found ≡ true → (one == other) ≡ leads_to other found
same_leads one other None leads = cc
same_leads one other (Some reader) leads = ap (λ n. n == other) (sym (eqb-true reader.subscriber one leads))

attached_reader : {T U : Type 0} (index reading at subscriber : ℕ) (port : PublisherPort T U)
    → leads_to reading (get_or port.readers at None) ≡ true → at < length port.readers
    → leads_to subscriber (get_or (set port.readers at (Some (record { subscriber = reading; attached = true }))) index None)
    ≡ leads_to subscriber (get_or port.readers index None)
attached_reader index reading at subscriber port leads within =
    let reader : Reader = record { subscriber = reading; attached = true } in
    elim (cases_eq index at) [
      | inl same ↦
          ap (λ n. leads_to subscriber (get_or (set port.readers at (Some reader)) n None)) same ∙ ap (λ r. leads_to subscriber r)
          (get_or-set_same port.readers at (Some reader) None within)
          ∙ same_leads reading subscriber (get_or port.readers at None) leads ∙ ap
          (λ n. leads_to subscriber (get_or port.readers n None)) (sym same)
      | inr not ↦ ap (λ r. leads_to subscriber r) (get_or-set_other port.readers at index (Some reader) None not)
    ]

pub attaches_steady : {T U : Type 0} (index subscriber reading limit at : ℕ) (found : Option ℕ) (old joined new : PublisherPort T U)
    → connection_to reading old ≡ found → Joins reading limit found old (Ok at) joined → new ≡ attached_at reading at joined
    → Steady index subscriber old new
attaches_steady {T} {U} index subscriber reading limit at (Some there) old joined new is_found joins is =
    let same : there ≡ at = ok_same at there (Ok at) refl joins.0 in
    let found : connection_to reading old ≡ Some at = is_found ∙ ap (λ i. Some i) same in
    let whole : new ≡ attached_at reading at old = is ∙ ap (λ port. attached_at reading at port) joins.1 in
    let within : at < length old.readers = (position-Some (leads_to reading) old.readers at None found).0 in
    steady_alike index subscriber old new (ap (λ port. port.sender.uses.sending) whole) (ap (λ port. port.sender.uses.history) whole)
    (ap (λ port. port.last_sequence) whole) (ap (λ port. port.stands) whole)
    (ap (λ port. port.progress.place) whole) (ap (λ port. port.ties) whole)
    (ap (λ port. leads_at index subscriber port) whole ∙ by_parts index subscriber old (attached_at reading at old) refl
    (attached_reader index reading at subscriber old (found_leads reading at old found) within))
    (ap (λ port. (connection_of index port).waiting) whole)
attaches_steady {T} {U} index subscriber reading limit at None old joined new is_found joins is =
    let made : MadeAt reading at old joined = connects_made reading limit at false old joined joins in
    let reader : Reader = record { subscriber = reading; attached = true } in
    elim (cases_eq index at) [
      | inl same ↦
          let was_not : leads_at index subscriber old ≡ false
          = ap (λ n. leads_at n subscriber old) same ∙ ap (λ b. b && leads_to subscriber (get_or old.readers at None)) made.none in
          let waits : (connection_of index new).waiting ≡ []
          = ap (λ port. (connection_of index port).waiting) is ∙ ap (λ n. (connection_of n joined).waiting) same ∙ made.waits in
          record {
            sending = ap (λ port. port.sender.uses.sending) is ∙ ap (λ port. port.sender.uses.sending) joins.2;
            history = ap (λ port. port.sender.uses.history) is ∙ ap (λ port. port.sender.uses.history) joins.2;
            sequence = ap (λ port. port.last_sequence) is ∙ ap (λ port. port.last_sequence) joins.2;
            stands = ap (λ port. port.stands) is ∙ made.stands;
            place = ap (λ port. port.progress.place) is ∙ ap (λ port. port.progress.place) joins.2;
            ties = ap (λ port. port.ties) is ∙ made.ties;
            leads = λ led. inr (was_not, waits);
            lost = λ off led. let no : false ≡ true = sym was_not ∙ led in absurd (cc);
            waits = inr waits;
          }
      | inr not ↦
          let here : connection_of index new ≡ connection_of index old = ap (λ port. connection_of index port) is ∙ made.others index not in
          let readers : get_or new.readers index None ≡ get_or old.readers index None =
          ap (λ port. get_or port.readers index None) is ∙ get_or-set_other joined.readers at index (Some reader) None not ∙
          made.readers index not in
          steady_alike index subscriber old new
          (ap (λ port. port.sender.uses.sending) is ∙ ap (λ port. port.sender.uses.sending) joins.2)
          (ap (λ port. port.sender.uses.history) is ∙ ap (λ port. port.sender.uses.history) joins.2)
          (ap (λ port. port.last_sequence) is ∙ ap (λ port. port.last_sequence) joins.2)
          (ap (λ port. port.stands) is ∙ made.stands) (ap (λ port. port.progress.place) is ∙ ap (λ port. port.progress.place) joins.2)
          (ap (λ port. port.ties) is ∙ made.ties)
          (by_parts index subscriber old new (ap (λ one. goes_on one.stage) here) (ap (λ r. leads_to subscriber r) readers))
          (ap (λ one. one.waiting) here)
    ]

-- a publisher leaves
parted_by : {T U : Type 0} (index subscriber at : ℕ) (attached : Bool) (port : PublisherPort T U) → port.stands ≡ false
    → Steady index subscriber port (if attached then port else ended_at at port)
parted_by index subscriber at true port left = steady_is index subscriber port port refl
parted_by index subscriber at false port left = ended_steady_by index subscriber at (is_live at port) port left

parted_books : {T U : Type 0} (index subscriber : ℕ) (sent taken : List (Message T U)) (count at : ℕ) (port : PublisherPort T U)
    → port.stands ≡ false → Books index subscriber sent taken port → Missing index subscriber sent taken port
    → Books index subscriber sent taken (parted_from count at port) × Missing index subscriber sent taken (parted_from count at port)
parted_books index subscriber sent taken zero at port left books missing = (books, missing)
parted_books {T} {U} index subscriber sent taken (suc count) at port left books missing =
    let steady : Steady index subscriber port (parted_at at port)
    = parted_by index subscriber at (is_attached (get_or port.readers at None)) port left in
    let one = (steady_port index subscriber port (parted_at at port) steady).keeps sent taken books missing in
    parted_books index subscriber sent taken count (at + 1) (parted_at at port) (steady.stands ∙ left) one.0 one.1

pub departed_books : {T U : Type 0} (index subscriber : ℕ) (sent taken : List (Message T U)) (port : PublisherPort T U)
    → port.sender.uses.sending ≡ None → Books index subscriber sent taken port → Missing index subscriber sent taken port
    → Books index subscriber sent taken (departed port) × Missing index subscriber sent taken (departed port)
departed_books {T} {U} index subscriber sent taken port silent books missing =
    let gone : PublisherPort T U = record port { stands = false } in
    parted_books index subscriber sent taken (length port.sender.uses.connections) 0 gone refl (record {
      history = books.history;
      numbered = books.numbered;
      last = books.last;
      left = λ left. silent;
      part = books.part;
      due = books.due;
      idle = λ leads stands. let no : false ≡ true = stands in absurd (cc);
    }) (λ off. by_case (missing off))
  where
    by_case : (taken ≡ []) ⊎ ((port.stands ≡ false) × IsPartOf taken sent) → (taken ≡ []) ⊎ ((false ≡ false) × IsPartOf taken sent)
    by_case (inl none) = inl none
    by_case (inr left) = inr (refl, left.1)
