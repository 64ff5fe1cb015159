-- What a subscriber holds stays.
use Rattle.std.proofs.Common.{rules, ◌≡◌, ◌≢◌, ◌∷◌, [], ◌++◌, ℕ, zero, suc, Bool, true, false, ◌==◌, List, length, map, get_or, set, take}
use Rattle.std.proofs.Common.{slice_get, is_some, Some, refl, sym, ap, ◌∙◌}
use Rattle.std.proofs.lemmas.List.{get_or-set_other}
use Rattle.std.specs.List.{list_all}
use Rattle.iox_domain_slots.specs.declared.stage.Stage.TheVariants as stage
use Rattle.iox_domain_slots.specs.Uses.{Connection, nobody, placed, connected, connection_at, offered, taken, given_back, ended, settled}
use Rattle.iox_domain_slots.specs.Uses.{welcomed}
use Rattle.iox_domain_ports.specs.Messages.{written_of}
use Rattle.iox_domain_ports.specs.MessagesLaws.{HeldStays, WholeIsSent}

still_there : {X : Type 0} (connections : List (Connection X)) (index at other : ℕ) (new : Connection X) (message : X)
    → slice_get (get_or connections index nobody).borrowed at ≡ Some message
    → (slice_get (get_or connections other nobody).borrowed at ≡ Some message → slice_get new.borrowed at ≡ Some message)
    → slice_get (get_or (set connections other new) index nobody).borrowed at ≡ Some message
still_there [] index at other new message held stays = held
still_there (c ∷ rest) zero at zero new message held stays = stays held
still_there (c ∷ rest) (suc index) at zero new message held stays = held
still_there (c ∷ rest) zero at (suc other) new message held stays = held
still_there (c ∷ rest) (suc index) at (suc other) new message held stays = still_there rest index at other new message held stays

behind : {X : Type 0} (xs ys : List X) (at : ℕ) (x : X) → slice_get xs at ≡ Some x → slice_get (xs ++ ys) at ≡ Some x
behind [] ys at x there = search (rules, there)
behind (y ∷ xs) ys zero x there = there
behind (y ∷ xs) ys (suc at) x there = behind xs ys at x there

at_end : {X : Type 0} (limit : ℕ) (borrowed : List X) (at : ℕ) (x : X) → slice_get borrowed at ≡ Some x
    → slice_get (settled stage.Ended limit [] borrowed).borrowed at ≡ Some x
at_end limit [] at x there = search (rules, there)
at_end limit (b ∷ borrowed) at x there = there

-- at another index
elsewhere : {X : Type 0} (connections : List (Connection X)) (index at other : ℕ) (new : Connection X) (message : X) → other ≢ index
    → slice_get (get_or connections index nobody).borrowed at ≡ Some message
    → slice_get (get_or (set connections other new) index nobody).borrowed at ≡ Some message
elsewhere connections index at other new message apart held =
    ap (λ connection. slice_get connection.borrowed at) (get_or-set_other connections other index new nobody (λ same. apart (sym same)))
    ∙ held

-- where nobody was nothing was held
vacant : {X : Type 0} (connections : List (Connection X)) (index at other : ℕ) (new : Connection X) (message : X)
    → get_or connections other nobody ≡ nobody
    → slice_get (get_or connections index nobody).borrowed at ≡ Some message
    → slice_get (get_or (set connections other new) index nobody).borrowed at ≡ Some message
vacant connections index at other new message nobody_is held = still_there connections index at other new message held
    (λ there. let wrong = sym (ap (λ connection. slice_get connection.borrowed at) nobody_is) ∙ there in search (rules, wrong))

-- after the others
joined : {X : Type 0} (connections : List (Connection X)) (index at : ℕ) (new : Connection X) (message : X)
    → slice_get (get_or connections index nobody).borrowed at ≡ Some message
    → slice_get (get_or (connections ++ new ∷ []) index nobody).borrowed at ≡ Some message
joined [] index at new message held = search (rules, held)
joined (c ∷ rest) zero at new message held = held
joined (c ∷ rest) (suc index) at new message held = joined rest index at new message held

come : {X : Type 0} (connections : List (Connection X)) (index at other limit : ℕ) (message : X) → get_or connections other nobody ≡ nobody
    → slice_get (get_or connections index nobody).borrowed at ≡ Some message
    → slice_get (get_or (placed other (connected limit) connections) index nobody).borrowed at ≡ Some message
come connections index at other limit message nobody_is held = by (other == length connections) refl
  where
    by : (last : Bool) → (other == length connections) ≡ last
        → slice_get (get_or (placed other (connected limit) connections) index nobody).borrowed at ≡ Some message
    by true is = rw is (joined connections index at (connected limit) message held)
    by false is = rw is (vacant connections index at other (connected limit) message nobody_is held)

pub held_stays : {T U : Type 0} → HeldStays T U
held_stays = record {
  loan = λ index at message one uses held. held;
  write = λ index at message slot change uses held. held;
  drop = λ index at message place uses held. held;
  begin = λ index at message place sent uses held. held;
  finish = λ index at message uses held. held;
  segment = λ index at message uses held. held;
  connect = λ index at message other limit uses nobody_is held. come uses.connections index at other limit message nobody_is held;
  give_back = λ index at message other place uses apart held. elsewhere uses.connections index at other
      (given_back place (connection_at other uses)) message apart held;
  offer = λ index at message other overflows sent uses held. still_there uses.connections index at other
      (offered overflows sent (connection_at other uses)) message held (λ there. there);
  take = λ index at message other uses held. still_there uses.connections index at other (taken (connection_at other uses)) message held
      (λ there. behind (connection_at other uses).borrowed (take 1 (connection_at other uses).waiting) at message there);
  end = λ index at message other uses held. still_there uses.connections index at other (ended (connection_at other uses)) message held
      (λ there. at_end (connection_at other uses).limit (connection_at other uses).borrowed at message there);
  welcome = λ index at message other history uses held. still_there uses.connections index at other
      (welcomed history (connection_at other uses)) message held (λ there. there);
}

all_whole : {T : Type 0} (values : List T) → list_all is_some (map Some values) ≡ true
all_whole [] = refl
all_whole (value ∷ values) = all_whole values

all_sent : {T : Type 0} (values : List T) → written_of (map Some values) ≡ values
all_sent [] = refl
all_sent (value ∷ values) = ap (λ rest. value ∷ rest) (all_sent values)

pub whole_is_sent : {T U : Type 0} → WholeIsSent T U
whole_is_sent = record { whole = λ values loan. all_whole values; values = λ sequence values loan. all_sent values }
