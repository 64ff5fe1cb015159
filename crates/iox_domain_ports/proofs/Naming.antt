-- Each step agrees with the names of loans and messages.
use Rattle.std.proofs.Common.{◌≡◌, ◌+◌, ◌-◌, ◌∷◌, [], ◌++◌, ℕ, zero, suc, Bool, true, false, nat_lt, if◌then◌else◌, List, length, get_or}
use Rattle.std.proofs.Common.{map, take, drop, remove, position, ◌==◌, cond, not, Some, refl, sym, ap, ◌∙◌}
use Rattle.std.proofs.lemmas.List.{map-set, map-append, length-map}
use Rattle.std.specs.List.{position_or_len}
use Rattle.iox_domain_slots.specs.Waiting.{put, put_over}
use Rattle.iox_domain_slots.specs.declared.stage.Stage.{Stage}
use Rattle.iox_domain_slots.specs.declared.stage.Stage.TheVariants as stage
use Rattle.iox_domain_slots.specs.Uses.{Uses, Connection, nobody, placed, offered, taken, given_back, settled, ended, newest, loaned}
use Rattle.iox_domain_slots.specs.Uses.{dropped, begun, connection_at, with_connection, welcomed}
use Rattle.iox_domain_ports.specs.MessagesSending.{connection_by, uses_by}

map_drop : {X Y : Type 0} (f : X → Y) (n : ℕ) (xs : List X) → map f (drop n xs) ≡ drop n (map f xs)
map_drop f zero xs = refl
map_drop f (suc n) [] = refl
map_drop f (suc n) (x ∷ xs) = map_drop f n xs

map_take : {X Y : Type 0} (f : X → Y) (n : ℕ) (xs : List X) → map f (take n xs) ≡ take n (map f xs)
map_take f zero xs = refl
map_take f (suc n) [] = refl
map_take f (suc n) (x ∷ xs) = ap (λ ys. f x ∷ ys) (map_take f n xs)

map_remove : {X Y : Type 0} (f : X → Y) (xs : List X) (at : ℕ) → map f (remove xs at) ≡ remove (map f xs) at
map_remove f xs at =
    map-append f (take at xs) (drop (suc at) xs)
    ∙ ap (λ first. first ++ map f (drop (suc at) xs)) (map_take f at xs)
    ∙ ap (λ last. take at (map f xs) ++ last) (map_drop f (suc at) xs)

map_newest : {X Y : Type 0} (f : X → Y) (n : ℕ) (xs : List X) → map f (newest n xs) ≡ newest n (map f xs)
map_newest f n xs = map_drop f (length xs - n) xs ∙ ap (λ k. drop (k - n) (map f xs)) (sym (length-map xs f))

pub dropped_by : {L X M Y : Type 0} (loan : L → M) (message : X → Y) (at : ℕ) (uses : Uses L X)
    → uses_by loan message (dropped at uses) ≡ dropped at (uses_by loan message uses)
dropped_by loan message at uses = ap (λ loans. record (uses_by loan message uses) { loans = loans }) (map_remove loan uses.loans at)

pub loaned_by : {L X M Y : Type 0} (loan : L → M) (message : X → Y) (one : L) (uses : Uses L X)
    → uses_by loan message (loaned one uses) ≡ loaned (loan one) (uses_by loan message uses)
loaned_by loan message one uses = ap (λ loans. record (uses_by loan message uses) { loans = loans }) (map-append loan uses.loans (one ∷ []))

pub begun_by : {L X M Y : Type 0} (loan : L → M) (message : X → Y) (at : ℕ) (one : X) (uses : Uses L X)
    → uses_by loan message (begun at one uses) ≡ begun at (message one) (uses_by loan message uses)
begun_by loan message at one uses =
    let history : map message (newest uses.kept (uses.history ++ one ∷ []))
    ≡ newest uses.kept (map message uses.history ++ message one ∷ []) =
    map_newest message uses.kept (uses.history ++ one ∷ []) ∙ ap (newest uses.kept) (map-append message uses.history (one ∷ [])) in
    ap (λ loans. record (uses_by loan message uses)
    { sending = Some (message one); loans = loans; history = map message (newest uses.kept (uses.history ++ one ∷ [])) })
    (map_remove loan uses.loans at)
    ∙ ap (λ messages. record (uses_by loan message uses)
    { sending = Some (message one); loans = remove (map loan uses.loans) at; history = messages }) history

pub remembered_by : {L X M Y : Type 0} (loan : L → M) (message : X → Y) (one : X) (uses : Uses L X)
    → uses_by loan message (record uses { history = newest uses.kept (uses.history ++ one ∷ []) })
    ≡ record (uses_by loan message uses) { history = newest uses.kept (map message uses.history ++ message one ∷ []) }
remembered_by loan message one uses = ap (λ messages. record (uses_by loan message uses) { history = messages })
    (map_newest message uses.kept (uses.history ++ one ∷ []) ∙ ap (newest uses.kept) (map-append message uses.history (one ∷ [])))

connection_of_named : {X Y : Type 0} (message : X → Y) (connections : List (Connection X)) (index : ℕ)
    → get_or (map (connection_by message) connections) index nobody ≡ connection_by message (get_or connections index nobody)
connection_of_named message [] index = refl
connection_of_named message (connection ∷ rest) zero = refl
connection_of_named message (connection ∷ rest) (suc index) = connection_of_named message rest index

pub connection_at_by : {L X M Y : Type 0} (loan : L → M) (message : X → Y) (index : ℕ) (uses : Uses L X)
    → connection_at index (uses_by loan message uses) ≡ connection_by message (connection_at index uses)
connection_at_by loan message index uses = connection_of_named message uses.connections index

pub with_connection_by : {L X M Y : Type 0} (loan : L → M) (message : X → Y) (index : ℕ) (connection : Connection X) (uses : Uses L X)
    → uses_by loan message (with_connection index connection uses)
    ≡ with_connection index (connection_by message connection) (uses_by loan message uses)
with_connection_by loan message index connection uses =
    ap (λ connections. record (uses_by loan message uses) { connections = connections })
    (map-set (connection_by message) uses.connections index connection)

pub offered_by : {X Y : Type 0} (message : X → Y) (overflows : Bool) (one : X) (connection : Connection X)
    → connection_by message (offered overflows one connection) ≡ offered overflows (message one) (connection_by message connection)
offered_by message overflows one connection =
    ap (λ waiting. record (connection_by message connection) { waiting = waiting })
    (at overflows (nat_lt (length connection.waiting) connection.limit) refl)
  where
    behind : map message (connection.waiting ++ one ∷ []) ≡ map message connection.waiting ++ message one ∷ []
    behind = map-append message connection.waiting (one ∷ [])

    same : nat_lt (length (map message connection.waiting)) connection.limit ≡ nat_lt (length connection.waiting) connection.limit
    same = ap (λ n. nat_lt n connection.limit) (length-map connection.waiting message)

    at : (overflows room : Bool) → nat_lt (length connection.waiting) connection.limit ≡ room
        → map message (if overflows then put_over connection.limit connection.waiting one else put connection.limit connection.waiting one)
        ≡ (if overflows then put_over connection.limit (map message connection.waiting) (message one) else put connection.limit
        (map message connection.waiting) (message one))
    at true true is = rw same (rw is behind)
    at true false is = rw same (rw is (map_drop message 1 (connection.waiting ++ one ∷ []) ∙ ap (drop 1) behind))
    at false true is = rw same (rw is behind)
    at false false is = rw same (rw is refl)

pub taken_by : {X Y : Type 0} (message : X → Y) (connection : Connection X)
    → connection_by message (taken connection) ≡ taken (connection_by message connection)
taken_by message connection =
    ap (λ waiting. record (connection_by message connection)
    { waiting = waiting; borrowed = map message (connection.borrowed ++ take 1 connection.waiting) })
    (map_drop message 1 connection.waiting)
    ∙ ap (λ borrowed. record (connection_by message connection) { waiting = drop 1 (map message connection.waiting); borrowed = borrowed })
    (map-append message connection.borrowed (take 1 connection.waiting) ∙ ap (λ ys. map message connection.borrowed ++ ys)
    (map_take message 1 connection.waiting))

pub settled_by : {X Y : Type 0} (message : X → Y) (now : Stage) (limit : ℕ) (waiting borrowed : List X)
    → connection_by message (settled now limit waiting borrowed) ≡ settled now limit (map message waiting) (map message borrowed)
settled_by message stage.Vacant limit waiting borrowed = refl
settled_by message stage.Live limit waiting borrowed = refl
settled_by message stage.Ended limit waiting [] = refl
settled_by message stage.Ended limit waiting (one ∷ borrowed) = refl

pub given_back_by : {X Y : Type 0} (message : X → Y) (at : ℕ) (connection : Connection X)
    → connection_by message (given_back at connection) ≡ given_back at (connection_by message connection)
given_back_by message at connection =
    settled_by message connection.stage connection.limit connection.waiting (remove connection.borrowed at)
    ∙ ap (settled connection.stage connection.limit (map message connection.waiting)) (map_remove message connection.borrowed at)

pub ended_by : {X Y : Type 0} (message : X → Y) (connection : Connection X)
    → connection_by message (ended connection) ≡ ended (connection_by message connection)
ended_by message connection = settled_by message stage.Ended connection.limit [] connection.borrowed

pub welcomed_by : {X Y : Type 0} (message : X → Y) (history : List X) (connection : Connection X)
    → connection_by message (welcomed history connection) ≡ welcomed (map message history) (connection_by message connection)
welcomed_by message history connection
    = ap (λ waiting. record (connection_by message connection) { waiting = waiting }) (map_newest message connection.limit history)

pub placed_by : {X Y : Type 0} (message : X → Y) (index : ℕ) (connection : Connection X) (connections : List (Connection X))
    → map (connection_by message) (placed index connection connections)
    ≡ placed index (connection_by message connection) (map (connection_by message) connections)
placed_by message index connection connections = at (index == length connections) refl
  where
    same : (index == length (map (connection_by message) connections)) ≡ (index == length connections)
    same = ap (λ n. index == n) (length-map connections (connection_by message))

    at : (behind : Bool) → (index == length connections) ≡ behind
        → map (connection_by message) (placed index connection connections)
        ≡ placed index (connection_by message connection) (map (connection_by message) connections)
    at true is = rw same (rw is (map-append (connection_by message) connections (connection ∷ [])))
    at false is = rw same (rw is (map-set (connection_by message) connections index connection))

pub first_by : {Y : Type 0} (name : ℕ → Y) (test : Y → Bool) (xs : List ℕ)
    → position_or_len test (map name xs) ≡ position_or_len (λ k. test (name k)) xs
first_by name test [] = refl
first_by name test (x ∷ xs) = ap (λ n. cond (not (test (name x))) (1 + n) 0) (first_by name test xs)

-- the first of a list that passes, by names
pub position_by : {Y : Type 0} (name : ℕ → Y) (test : Y → Bool) (xs : List ℕ)
    → position test (map name xs) ≡ position (λ k. test (name k)) xs
position_by name test xs = rw (first_by name test xs) (rw (length-map xs name) refl)
