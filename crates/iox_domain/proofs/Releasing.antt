-- What a release leaves held.
use Rattle.std.proofs.Common.{arith, ◌≡◌, ◌≢◌, ◌<◌, ◌==◌, ◌∷◌, [], ℕ, zero, suc, Bool, false, cond, List, get_or, set, length, Option}
use Rattle.std.proofs.Common.{None, Some, refl, sym, ap, ◌∙◌, inl, inr, ◌≤◌, remove}
use Rattle.std.proofs.lemmas.Bool.{cases_eq, cases_lt, eqb-true}
use Rattle.std.proofs.lemmas.List.{get_or-set_other, get_or-set_same, get_or_past}
use Rattle.std.proofs.lemmas.List.Quantifiers.{position-Some}
use Rattle.std.specs.List.{All, find, remove}
use Rattle.iox_domain.specs.DomainSlots.Uses.{Connection, nobody, given_back, settled}
use Rattle.iox_domain.specs.DomainSlots.declared.stage.Stage.{Stage}
use Rattle.iox_domain.specs.DomainSlots.declared.stage.Stage.TheVariants as stage
use Rattle.iox_domain.specs.DomainPorts.Messages.{Message}
use Rattle.iox_domain.specs.DomainPorts.Ports.{connection_of}
use Rattle.iox_domain.specs.DomainPorts.declared.publisher_port.PublisherPort.{PublisherPort}
use Rattle.iox_domain.specs.DomainPorts.Publishers.{port_of, connection_in, connection_at_port, with_port, changed, changed_at_port}
use Rattle.iox_domain.specs.DomainPorts.Publishers.{released}
use Rattle.iox_domain.specs.DomainPorts.Publishers as publishers
use Rattle.iox_domain.specs.DomainPorts.Reading.{borrowed_in, place_of, given_back_at}
use Rattle.iox_domain.specs.DomainPorts.declared.attached.Taken.{Taken}
use Rattle.iox_domain.specs.SizeLaws.{MadeFor, made_for, IsWithin, IsMadeFor}
use Rattle.iox_domain.proofs.PortLawsKeeping.{set_within, nobody_within}
use Rattle.iox_domain.specs.PortLawsLaws.{IsTidy, IsSoundEntry}
use Rattle.iox_domain.specs.Reading.{sample_at_port}
use Rattle.iox_domain.proofs.ListKeeps.{ListKeeps, list_settled, tidy_found, sized_with}
use Rattle.iox_domain.proofs.Numbered.{at_number, bool_false, other_fails, other_set, same_set, all_set}

-- another is found as before where one that isn't looked for is removed
find_removed : {X : Type 0} (test : X → Bool) (xs : List X) (at : ℕ) (d : X) → at < length xs → test (get_or xs at d) ≡ false
    → find test (remove xs at) ≡ find test xs
find_removed test [] at d within fails = absurd (omega (arith, within))
find_removed test (x ∷ xs) zero d within fails = sym (ap (λ b. cond b (Some x) (find test xs)) fails)
find_removed test (x ∷ xs) (suc at) d within fails
    = ap (λ found. cond (test x) (Some x) found) (find_removed test xs at d (omega (arith, within)) fails)

-- the list of what is borrowed after a connection was settled
settled_borrowed : {T U : Type 0} (now : Stage) (limit : ℕ) (waiting borrowed : List (Message T U))
    → (settled now limit waiting borrowed).borrowed ≡ borrowed
settled_borrowed stage.Ended limit waiting [] = refl
settled_borrowed stage.Ended limit waiting (x ∷ xs) = refl
settled_borrowed stage.Live limit waiting borrowed = refl
settled_borrowed stage.Vacant limit waiting borrowed = refl

remove_nothing : {X : Type 0} (xs : List X) (at : ℕ) → xs ≡ [] → remove xs at ≡ []
remove_nothing xs zero is = rw is refl
remove_nothing xs (suc at) is = rw is refl

-- a settled connection that is vacant holds nothing
settled_tidy : {T U : Type 0} (now : Stage) (connection : Connection (Message T U)) (borrowed : List (Message T U))
    → connection.stage ≡ now → (connection.stage ≡ stage.Vacant → connection ≡ nobody) → (connection.borrowed ≡ [] → borrowed ≡ [])
    → (settled now connection.limit connection.waiting borrowed).stage ≡ stage.Vacant
    → settled now connection.limit connection.waiting borrowed ≡ nobody
settled_tidy stage.Ended connection [] is tidy none vacant = refl
settled_tidy stage.Ended connection (x ∷ xs) is tidy none vacant = let no : stage.Ended ≡ stage.Vacant = vacant in cc
settled_tidy stage.Live connection borrowed is tidy none vacant = let no : stage.Live ≡ stage.Vacant = vacant in cc
settled_tidy {T} {U} stage.Vacant connection borrowed is tidy none vacant =
    let empty : connection ≡ nobody = tidy is in
    let nothing : borrowed ≡ [] = none (ap (λ one. one.borrowed) empty) in
    let with_borrowed : List (Message T U) → Connection (Message T U)
    → Connection (Message T U) = λ all one. record { stage = stage.Vacant; limit = one.limit; waiting = one.waiting; borrowed = all } in
    ap (λ one. with_borrowed borrowed one) empty ∙ ap (λ all. with_borrowed all nobody) nothing

-- what holds of each connection holds of each after one changed
set_each : {T U : Type 0} (P : Connection (Message T U) → Type 0) (connections : List (Connection (Message T U))) (index : ℕ)
    (connection : Connection (Message T U)) → ((other : ℕ) → P (get_or connections other nobody)) → P connection → (other : ℕ)
    → P (get_or (set connections index connection) other nobody)
set_each P [] index connection all here other = all other
set_each P (x ∷ xs) zero connection all here zero = here
set_each P (x ∷ xs) zero connection all here (suc other) = all (suc other)
set_each P (x ∷ xs) (suc index) connection all here zero = all zero
set_each P (x ∷ xs) (suc index) connection all here (suc other) = set_each P xs index connection (λ one. all (suc one)) here other

back_tidy : {T U : Type 0} (index at : ℕ) (port : PublisherPort T U) → IsTidy port → IsTidy (given_back_at index (Some at) port)
back_tidy {T} {U} index at port tidy other =
    let old : Connection (Message T U) = connection_of index port in
    let P : Connection (Message T U) → Type 0 = λ connection. connection.stage ≡ stage.Vacant → connection ≡ nobody in
    set_each P port.sender.uses.connections index (given_back at old) tidy
    (settled_tidy old.stage old (remove old.borrowed at) refl (tidy index) (remove_nothing old.borrowed at)) other

-- any other message stays
back_held : {T U : Type 0} (index at slot other_index other_slot : ℕ) (message : Message T U) (port : PublisherPort T U)
    → place_of slot (connection_of index port) ≡ Some at → (other_index ≡ index → other_slot ≢ slot)
    → borrowed_in other_slot (connection_of other_index port) ≡ Some message
    → borrowed_in other_slot (connection_of other_index (given_back_at index (Some at) port)) ≡ Some message
back_held {T} {U} index at slot other_index other_slot message port there apart held = elim (cases_eq other_index index) [
  | inl same ↦
      let old : Connection (Message T U) = connection_of index port in
      let found = position-Some (λ one. one.slot == slot) old.borrowed at message there in
      let is_there : index < length port.sender.uses.connections = elim (cases_lt index (length port.sender.uses.connections)) [
        | inl within ↦ within
        | inr past ↦
            let none : old ≡ nobody = get_or_past port.sender.uses.connections index nobody past in
            absurd (omega (arith, found.0, ap (λ one. length one.borrowed) none))
      ] in
      let fails : ((get_or old.borrowed at message).slot == other_slot) ≡ false =
      bool_false ((get_or old.borrowed at message).slot == other_slot)
      (λ is. apart same (sym (eqb-true _ other_slot is) ∙ eqb-true _ slot found.1)) in
      let here : connection_of index (given_back_at index (Some at) port) ≡ given_back at old
      = get_or-set_same port.sender.uses.connections index (given_back at old) nobody is_there in
      ap (λ i. borrowed_in other_slot (connection_of i (given_back_at index (Some at) port))) same
      ∙ ap (λ one. borrowed_in other_slot one) here
      ∙ ap (λ all. find (λ one. one.slot == other_slot) all) (settled_borrowed old.stage old.limit old.waiting (remove old.borrowed at))
      ∙ find_removed (λ one. one.slot == other_slot) old.borrowed at message found.0 fails
      ∙ ap (λ i. borrowed_in other_slot (connection_of i port)) (sym same) ∙ held
  | inr other ↦
      ap (λ one. borrowed_in other_slot one)
      (get_or-set_other port.sender.uses.connections index other_index (given_back at (connection_of index port)) nobody other) ∙ held
]

-- a publisher is given a message back
settled_within : {X : Type 0} (now : Stage) (sizes : MadeFor) (limit : ℕ) (waiting borrowed : List X) → length waiting ≤ limit
    → limit ≤ sizes.most_waiting → length borrowed ≤ sizes.most_borrowed → IsWithin sizes (settled now limit waiting borrowed)
settled_within {X} stage.Ended sizes limit waiting [] short fits few = nobody_within X sizes
settled_within stage.Ended sizes limit waiting (x ∷ xs) short fits few = (short, fits, few)
settled_within stage.Live sizes limit waiting borrowed short fits few = (short, fits, few)
settled_within stage.Vacant sizes limit waiting borrowed short fits few = (short, fits, few)

fewer_left : {X : Type 0} (xs : List X) (at : ℕ) → length (remove xs at) ≤ length xs
fewer_left [] zero = omega arith
fewer_left [] (suc at) = omega arith
fewer_left (x ∷ xs) zero = omega arith
fewer_left (x ∷ xs) (suc at) = let rest = fewer_left xs at in omega (arith, rest)

-- who gives back keeps within what may be borrowed
back_within : {T U : Type 0} (index at : ℕ) (port : PublisherPort T U)
    → ((other : ℕ) → IsWithin (made_for port) (connection_of other port)) → (other : ℕ)
    → IsWithin (made_for port) (connection_of other (given_back_at index (Some at) port))
back_within index at port all other =
    let old = connection_of index port in
    set_within (made_for port) port.sender.uses.connections index (given_back at old)
    (settled_within old.stage (made_for port) old.limit old.waiting (remove old.borrowed at) (all index).0 (all index).1
    (let few = (all index).2 in omega (arith, few, fewer_left old.borrowed at))) all other

pub record BackKeeps {T U : Type 0} (given : Taken) (old new : List (ℕ × PublisherPort T U)) : Type 0 where
  pub sound : (next : ℕ) → All (IsSoundEntry next) old → All (IsSoundEntry next) new
  pub held : (next : ℕ) → All (IsSoundEntry next) old → (sample : Taken) (message : Message T U)
      → (sample.publisher ≡ given.publisher → sample.index ≡ given.index → sample.slot ≢ given.slot)
      → sample_at_port sample (port_of sample.publisher old) ≡ Some message
      → sample_at_port sample (port_of sample.publisher new) ≡ Some message
  pub sized : (sizes : MadeFor) → All (IsMadeFor sizes) old → All (IsMadeFor sizes) new

back_found : {T U : Type 0} (given : Taken) (at : ℕ) (found : Option (PublisherPort T U)) (ports : List (ℕ × PublisherPort T U))
    → port_of given.publisher ports ≡ found → place_of given.slot (connection_at_port given.index found) ≡ Some at
    → BackKeeps given ports (changed_at_port given.publisher (given_back_at given.index (Some at)) found ports)
back_found given at None ports found there
    = record { sound = λ next all. all; held = λ next all sample message apart held. held; sized = λ sizes all. all }
back_found {T} {U} given at (Some port) ports found there =
    let after : PublisherPort T U = given_back_at given.index (Some at) port in
    record {
      sound = λ next all. all_set (IsSoundEntry next) (at_number given.publisher) ports after
          (λ one sound. (sound.0, back_tidy given.index at port (tidy_found next given.publisher ports port all found))) all;
      held = λ next all sample message apart held. elim (cases_eq sample.publisher given.publisher) [
        | inl same ↦
            let before : sample_at_port sample (Some port) ≡ Some message
            = ap (λ one. sample_at_port sample one) (sym (ap (λ n. port_of n ports) same ∙ found)) ∙ held in
            ap (λ one. sample_at_port sample one)
            (ap (λ n. port_of n (with_port given.publisher ports after)) same ∙ same_set (at_number given.publisher) ports after
            port found)
            ∙ back_held given.index at given.slot sample.index sample.slot message port there (apart same) before
        | inr other ↦
            ap (λ one. sample_at_port sample one)
            (other_set (at_number given.publisher) (at_number sample.publisher) ports after
            (other_fails sample.publisher given.publisher other)) ∙ held
      ];
      sized = λ sizes all. sized_with sizes given.publisher ports port after found refl (back_within given.index at port) all;
    }

pub back_keeps : {T U : Type 0} (given : Taken) (at : ℕ) (ports : List (ℕ × PublisherPort T U))
    → place_of given.slot (connection_in given.publisher given.index ports) ≡ Some at
    → BackKeeps given ports (released given.publisher given.index (Some at) ports)
back_keeps {T} {U} given at ports there =
    let between : List (ℕ × PublisherPort T U) = changed given.publisher (given_back_at given.index (Some at)) ports in
    let one : BackKeeps given ports between = back_found given at (port_of given.publisher ports) ports refl there in
    let two : ListKeeps between (publishers.settled given.publisher between) = list_settled given.publisher between in
    record {
      sound = λ next all. two.sound next (one.sound next all);
      held = λ next all sample message apart held. two.held next (one.sound next all) sample message
          (one.held next all sample message apart held);
      sized = λ sizes all. two.sized sizes (one.sized sizes all);
    }
