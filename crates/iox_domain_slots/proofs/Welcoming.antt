-- A new connection gets the history, entry by entry.
use Rattle.std.proofs.Common.{rules, arith, ◌≡◌, ◌+◌, ◌-◌, ◌<◌, ◌≤◌, ◌∷◌, [], ◌++◌, ℕ, zero, suc, Bool, true, false, List, length, take}
use Rattle.std.proofs.Common.{drop, get_or, nat_lt, if◌then◌else◌, refl, sym, ap, ◌∙◌}
use Rattle.std.proofs.lemmas.List.{take_more, get_or-drop, length-take-le, length-drop, get_or-set_same}
use Rattle.iox_domain_slots.specs.Waiting.{put, put_over}
use Rattle.iox_domain_slots.specs.Uses.{nobody}
use Rattle.iox_domain_slots.specs.declared.stage.Stage.TheVariants as stage
use Rattle.iox_domain_slots.proofs.AllSlots.{set_twice}
use Rattle.iox_domain_slots.specs.Uses.{Uses, Connection, connection_at, with_connection, offered}

-- n of the last entries of the history have come, up to a place of it
pub record Welcoming (index : ℕ) (first now : Uses ℕ ℕ) (place : ℕ) : Type 0 where
  pub from : length first.history - (connection_at index first).limit ≤ place
  pub came : now ≡ with_connection index (record (connection_at index first) {
    waiting = take (place - (length first.history - (connection_at index first).limit))
        (drop (length first.history - (connection_at index first).limit) first.history);
  }) first

-- the connection with something else waiting
abbrev waiting_at : Connection ℕ → List ℕ → Connection ℕ
waiting_at connection waiting = record connection { waiting = waiting }

-- the publisher with other connections
abbrev connections_of : Uses ℕ ℕ → List (Connection ℕ) → Uses ℕ ℕ
connections_of uses connections = record uses { connections = connections }

-- a message comes to a mailbox with room
room_for : (overflows : Bool) (limit : ℕ) (waiting : List ℕ) (slot : ℕ) → length waiting < limit
    → (if overflows then put_over limit waiting slot else put limit waiting slot) ≡ waiting ++ slot ∷ []
room_for true limit waiting slot below = let fits : nat_lt (length waiting) limit ≡ true = grind (arith, below) in rw fits refl
room_for false limit waiting slot below = let fits : nat_lt (length waiting) limit ≡ true = grind (arith, below) in rw fits refl

-- a connection that goes on stands within the list
pub goes_on_within : (connections : List (Connection ℕ)) (index : ℕ) → (get_or connections index nobody).stage ≡ stage.Live
    → index < length connections
goes_on_within [] index live = search (rules, live)
goes_on_within (x ∷ xs) zero live = omega arith
goes_on_within (x ∷ xs) (suc index) live = omega (arith, goes_on_within xs index live)

-- one entry more comes
pub welcome_step : (index : ℕ) (first now next : Uses ℕ ℕ) (place slot : ℕ) → Welcoming index first now place → place < length first.history
    → (connection_at index first).stage ≡ stage.Live → slot ≡ get_or now.history place 0
    → next ≡ with_connection index (offered now.overflows slot (connection_at index now)) now → Welcoming index first next (place + 1)
welcome_step index first now next place slot so_far within live is_slot is_next =
    let start = length first.history - (connection_at index first).limit in
    let entries = drop start first.history in
    let count = place - start in
    let inside : index < length first.connections = goes_on_within first.connections index live in
    let some : Connection ℕ = record (connection_at index first) { waiting = take count entries } in
    let history : now.history ≡ first.history = ap (λ u. u.history) so_far.came in
    let overflows : now.overflows ≡ first.overflows = ap (λ u. u.overflows) so_far.came in
    let now_at : connection_at index now ≡ some
    = ap (λ u. connection_at index u) so_far.came ∙ get_or-set_same first.connections index some nobody inside in
    let length_is : length (take count entries) ≡ count
    = length-take-le count entries (omega (arith, within, so_far.from, length-drop start first.history)) in
    let entry : slot ≡ get_or entries count 0 =
    is_slot ∙ ap (λ h. get_or h place 0) history ∙ ap (λ i. get_or first.history i 0) (omega (arith, so_far.from)) ∙ sym
    (get_or-drop start first.history count 0) in
    let one_more : take count entries ++ slot ∷ [] ≡ take (count + 1) entries =
    ap (λ x. take count entries ++ x ∷ []) entry ∙ sym
    (take_more entries count 0 (omega (arith, within, so_far.from, length-drop start first.history))) in
    let grown : Connection ℕ = record (connection_at index first) { waiting = take (count + 1) entries } in
    let put_is : offered now.overflows slot (connection_at index now) ≡ grown =
    ap (λ c. offered now.overflows slot c) now_at
    ∙ ap (λ w. waiting_at (connection_at index first) w)
    (room_for now.overflows (connection_at index first).limit (take count entries) slot
    (omega (arith, length_is, within, so_far.from)) ∙ one_more) in
    record {
      from = omega (arith, so_far.from);
      came = is_next
          ∙ ap (λ c. with_connection index c now) put_is
          ∙ ap (λ u. with_connection index grown u) so_far.came
          ∙ ap (λ cs. connections_of first cs) (set_twice first.connections index some grown)
          ∙ ap (λ n. with_connection index (waiting_at (connection_at index first) (take n entries)) first) (omega (arith, so_far.from));
    }
