-- What a connection of slots says of the messages in them.
use Rattle.std.proofs.Common.{◌≡◌, ℕ, Bool, true, false, Option, None, Some, option_copied, IfSome, IfNone, length, refl, sym, ap, ◌∙◌}
use Rattle.std.proofs.Common.{if◌then◌else◌, ◌<◌, Result, Ok, Err}
use Rattle.std.specs.Prelude.{IfOk}
use Rattle.std.specs.declared.alloc.AllocError.{AllocError}
use Rattle.std.proofs.lemmas.List.{length-map}
use Rattle.std.specs.Borrow.{Bor}
use Rattle.iox_domain_slots.specs.Uses.{Uses, connection_at, nobody, is_there, is_open}
use Rattle.iox_domain_slots.specs.Links.{LinkState, connection_of, seen}
use Rattle.iox_domain_slots.specs.declared.stage.Stage.TheVariants as stage
use Rattle.iox_domain_ports.specs.MessagesSending.{SenderState, Store, seen_sender, connection_by, loan_in, message_in}
use Rattle.iox_domain_ports.proofs.Naming.{connection_at_by}

-- the connection of an index by its messages
by_messages : {T U : Type 0} (store : Store T U) (uses : Uses ℕ ℕ) (state : SenderState T U) (index : ℕ) → seen_sender store uses ≡ state
    → connection_at index state.uses ≡ connection_by (message_in store) (connection_at index uses)
by_messages store uses state index is =
    ap (λ s. connection_at index s.uses) (sym is) ∙ connection_at_by (loan_in store) (message_in store) index uses

-- the same where a connection was found
found_by_messages : {T U : Type 0} (store : Store T U) (uses : Uses ℕ ℕ) (state : SenderState T U) (index : ℕ) (link : LinkState)
    → seen_sender store uses ≡ state → connection_of link ≡ connection_at index uses
    → connection_at index state.uses ≡ connection_by (message_in store) (connection_of link)
found_by_messages store uses state index link is there =
    by_messages store uses state index is ∙ ap (connection_by (message_in store)) (sym there)

open_either : (ended : Bool) → is_open (if ended then stage.Ended else stage.Live) ≡ true
open_either true = refl
open_either false = refl

-- where none was found there is none
pub none_told : {T U : Type 0} (store : Store T U) (uses : Uses ℕ ℕ) (state : SenderState T U) (index : ℕ)
    (one : Option (Bor LinkState)) → seen_sender store uses ≡ state → seen (option_copied one) ≡ connection_at index uses
    → IfNone one (connection_at index state.uses ≡ nobody)
none_told store uses state index None is there =
    by_messages store uses state index is ∙ ap (connection_by (message_in store)) (sym there)
none_told store uses state index (Some link) is there = tt

-- where one was found there is one
pub there_told : {T U : Type 0} (store : Store T U) (uses : Uses ℕ ℕ) (state : SenderState T U) (index : ℕ)
    (one : Option (Bor LinkState)) → seen_sender store uses ≡ state → seen (option_copied one) ≡ connection_at index uses
    → IfSome one (λ link. is_there (connection_at index state.uses) ≡ true)
there_told store uses state index None is there = tt
there_told store uses state index (Some link) is there =
    ap is_there (found_by_messages store uses state index link.now is there) ∙ open_either link.now.ended

-- how far it is
pub stage_told : {T U : Type 0} (store : Store T U) (uses : Uses ℕ ℕ) (state : SenderState T U) (index : ℕ)
    (one : Option (Bor LinkState)) → seen_sender store uses ≡ state → seen (option_copied one) ≡ connection_at index uses
    → IfSome one (λ link. (connection_at index state.uses).stage ≡ (if link.now.ended then stage.Ended else stage.Live))
stage_told store uses state index None is there = tt
stage_told store uses state index (Some link) is there =
    ap (λ c. c.stage) (found_by_messages store uses state index link.now is there)

-- how many may wait there
pub limit_told : {T U : Type 0} (store : Store T U) (uses : Uses ℕ ℕ) (state : SenderState T U) (index : ℕ)
    (one : Option (Bor LinkState)) → seen_sender store uses ≡ state → seen (option_copied one) ≡ connection_at index uses
    → IfSome one (λ link. link.now.limit ≡ (connection_at index state.uses).limit)
limit_told store uses state index None is there = tt
limit_told store uses state index (Some link) is there =
    sym (ap (λ c. c.limit) (found_by_messages store uses state index link.now is there))

-- as many messages wait as slots
pub waiting_told : {T U : Type 0} (store : Store T U) (uses : Uses ℕ ℕ) (state : SenderState T U) (index : ℕ)
    (one : Option (Bor LinkState)) → seen_sender store uses ≡ state → seen (option_copied one) ≡ connection_at index uses
    → IfSome one (λ link. length link.now.waiting ≡ length (connection_at index state.uses).waiting)
waiting_told store uses state index None is there = tt
waiting_told store uses state index (Some link) is there =
    sym (ap (λ c. length c.waiting) (found_by_messages store uses state index link.now is there)
    ∙ length-map link.now.waiting (message_in store))

-- as many are borrowed as slots
pub borrowed_told : {T U : Type 0} (store : Store T U) (uses : Uses ℕ ℕ) (state : SenderState T U) (index : ℕ)
    (one : Option (Bor LinkState)) → seen_sender store uses ≡ state → seen (option_copied one) ≡ connection_at index uses
    → IfSome one (λ link. length link.now.borrowed ≡ length (connection_at index state.uses).borrowed)
borrowed_told store uses state index None is there = tt
borrowed_told store uses state index (Some link) is there =
    sym (ap (λ c. length c.borrowed) (found_by_messages store uses state index link.now is there)
    ∙ length-map link.now.borrowed (message_in store))

-- past the last connection there is none
pub none_named : {T U : Type 0} (store : Store T U) (uses : Uses ℕ ℕ) (state : SenderState T U) (index : ℕ) → seen_sender store uses ≡ state
    → connection_at index uses ≡ nobody → connection_at index state.uses ≡ nobody
none_named store uses state index is none = by_messages store uses state index is ∙ ap (connection_by (message_in store)) none

-- where a connection of slots exists, one of messages does
pub there_named : {T U : Type 0} (store : Store T U) (uses : Uses ℕ ℕ) (state : SenderState T U) (index : ℕ)
    → seen_sender store uses ≡ state → is_there (connection_at index uses) ≡ true → is_there (connection_at index state.uses) ≡ true
there_named store uses state index is there = ap is_there (by_messages store uses state index is) ∙ there

-- below the index of a new connection each index has one
pub lowest_told : {T U : Type 0} (store : Store T U) (uses : Uses ℕ ℕ) (state : SenderState T U) (result : Result ℕ AllocError)
    → seen_sender store uses ≡ state
    → IfOk result (λ index. (lower : ℕ) → lower < index → is_there (connection_at lower uses) ≡ true)
    → IfOk result (λ index. (lower : ℕ) → lower < index → is_there (connection_at lower state.uses) ≡ true)
lowest_told store uses state (Err error) is lowest = lowest
lowest_told store uses state (Ok index) is lowest = λ lower below.
    there_named store uses state lower is (lowest lower below)
