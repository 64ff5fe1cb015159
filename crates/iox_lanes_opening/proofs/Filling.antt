-- A publisher gets all that lanes leave of it.
use Rattle.std.proofs.Common.{arith, ◌≡◌, ◌≢◌, ◌+◌, ◌<◌, ◌≤◌, [], ℕ, List, length, get_or, set, Option, None, Some, refl, sym, subst, ap}
use Rattle.std.proofs.Common.{inl, inr, ◌∙◌}
use Rattle.std.proofs.Math.Logic.{⊎_elim}
use Rattle.std.proofs.lemmas.Bool.{cases_lt}
use Rattle.std.proofs.lemmas.Bool.Decides.{eqb_tells}
use Rattle.std.proofs.lemmas.List.{get_or-set_same, get_or-set_other, length-set}
use Rattle.std.proofs.lemmas.List.Elements.{All-nil}
use Rattle.std.proofs.lemmas.Option.{get_or_from_slice_get, slice_get-get_or}
use Rattle.std.specs.List.{All}
use Rattle.iox_domain_ports.specs.DomainSlots.Uses.{Connection, nobody, connection_at}
use Rattle.iox_domain_ports.specs.Messages.{Message}
use Rattle.iox_domain_ports.specs.MessagesSending.{SenderState, with_uses}
use Rattle.iox_lanes_machine.specs.LanesBase.Table.{TableWords}
use Rattle.iox_lanes_machine.specs.World.{World}
use Rattle.iox_lanes_opening.specs.Clearing.{NoneBorrowed, IsCleared}
use Rattle.iox_lanes_opening.specs.Restoring.{AreLeft, IsLeft, IsOwn, IsQuiet, OnlyWaits, OnlyRemembers, MayRememberAll, messages_in}
use Rattle.iox_lanes_opening.specs.Restored.{IsRestored, MayWaitAt, left_at, place_of, with_waiting}
use Rattle.iox_lanes_opening.proofs.Returning.{within}

-- a publisher whose segment is that of another, and a connection of it with the same stage and limit
record IsAlike {T U : Type 0} (index : ℕ) (old new : SenderState T U) : Type 0 where
  first : new.uses.first ≡ old.uses.first
  size : new.uses.size ≡ old.uses.size
  stage : (connection_at index new.uses).stage ≡ (connection_at index old.uses).stage
  limit : (connection_at index new.uses).limit ≡ (connection_at index old.uses).limit

own_still : {T U : Type 0} (first slot slots : ℕ) (old new : SenderState T U) → new.uses.first ≡ old.uses.first
    → new.uses.size ≡ old.uses.size → IsOwn first slot slots old.uses → IsOwn first slot slots new.uses
own_still first slot slots old new first_is size_is own = record {
  from = own.from;
  there = own.there;
  behind = omega (arith, own.behind, first_is);
  within = omega (arith, own.within, first_is, size_is);
}

-- what may wait at the connection of the one may at that of the other
may_still : {T U : Type 0} (lanes : World) (from first index : ℕ) (old new : SenderState T U) (place : Option ℕ) → IsAlike index old new
    → MayWaitAt lanes from first index old place → MayWaitAt lanes from first index new place
may_still lanes from first index old new None alike may = may
may_still lanes from first index old new (Some place) alike may = record {
  rests = may.rests;
  own = λ at slot is. own_still first slot lanes.table.sizes.slots old new alike.first alike.size (may.own at slot is);
  live = alike.stage ∙ may.live;
  room = omega (arith, may.room, alike.limit);
}

-- what the lanes leave waits at the first connections
pub record Filling {T U : Type 0} (value_of : List ℕ → T) (header_of : List ℕ → Option ℕ × U) (lanes : World) (from : ℕ) (indices : List ℕ)
    (first : ℕ) (start now : SenderState T U) (count : ℕ) : Type 0 where
  pub rest : now ≡ with_uses (record start.uses { connections = now.uses.connections }) start
  pub same : length now.uses.connections ≡ length start.uses.connections
  pub each : (index : ℕ) → connection_at index now.uses
      ≡ with_waiting (connection_at index start.uses) (connection_at index now.uses).waiting
  pub waits : (index : ℕ) → index < count → MayWaitAt lanes from first index start (place_of index indices)
      → (connection_at index now.uses).waiting ≡ left_at value_of header_of lanes from first (place_of index indices)
  pub empty : (index : ℕ) → count ≤ index → (connection_at index now.uses).waiting ≡ []
  pub left : AreLeft value_of header_of lanes.table first now.uses

filling_alike : {T U : Type 0} (index : ℕ) (start now : SenderState T U)
    → now ≡ with_uses (record start.uses { connections = now.uses.connections }) start
    → connection_at index now.uses ≡ with_waiting (connection_at index start.uses) (connection_at index now.uses).waiting
    → IsAlike index start now
filling_alike index start now rest each = record {
  first = ap (λ s. s.uses.first) rest;
  size = ap (λ s. s.uses.size) rest;
  stage = ap (λ c. c.stage) each;
  limit = ap (λ c. c.limit) each;
}

-- and at one more
pub one_filled : {T U : Type 0} (value_of : List ℕ → T) (header_of : List ℕ → Option ℕ × U) (lanes : World) (from : ℕ) (indices : List ℕ)
    (first : ℕ) (start now next : SenderState T U) (count : ℕ)
    → Filling value_of header_of lanes from indices first start now count → count < length start.uses.connections → OnlyWaits count now next
    → (MayWaitAt lanes from first count now (place_of count indices)
    → (connection_at count next.uses).waiting ≡ left_at value_of header_of lanes from first (place_of count indices))
    → AreLeft value_of header_of lanes.table first next.uses
    → Filling value_of header_of lanes from indices first start next (count + 1)
one_filled {T = T} {U = U} value_of header_of lanes from indices first start now next count so_far below only waits left = record {
  rest = only ∙ ap (λ s. with_uses (record s.uses { connections = set now.uses.connections count this }) s) so_far.rest
      ∙ ap (λ cs. with_uses (record start.uses { connections = cs }) start) (sym connections_are);
  same = ap length connections_are ∙ length-set now.uses.connections count this ∙ so_far.same;
  each = λ index. ⊎_elim
      (λ same. subst (λ i. connection_at i next.uses ≡ with_waiting (connection_at i start.uses) (connection_at i next.uses).waiting)
      (sym same.1) here)
      (λ other. elsewhere index other.1 ∙ so_far.each index ∙ ap (λ c. with_waiting (connection_at index start.uses) c.waiting)
      (sym (elsewhere index other.1)))
      (eqb_tells index count);
  waits = λ index few may. ⊎_elim
      (λ same. subst (λ i. MayWaitAt lanes from first i start (place_of i indices)
      → (connection_at i next.uses).waiting ≡ left_at value_of header_of lanes from first (place_of i indices)) (sym same.1) there may)
      (λ other. ap (λ c. c.waiting) (elsewhere index other.1) ∙ so_far.waits index (omega (arith, few, other.1)) may)
      (eqb_tells index count);
  empty = λ index beyond. ap (λ c. c.waiting) (elsewhere index (λ same. absurd (omega (arith, beyond, same)))) ∙ so_far.empty index
      (omega (arith, beyond));
  left = left;
}
  where
    this : Connection (Message T U)
    this = with_waiting (connection_at count now.uses) (connection_at count next.uses).waiting

    connections_are : next.uses.connections ≡ set now.uses.connections count this
    connections_are = ap (λ s. s.uses.connections) only

    elsewhere : (k : ℕ) → k ≢ count → connection_at k next.uses ≡ connection_at k now.uses
    elsewhere k apart = ap (λ cs. get_or cs k nobody) connections_are ∙ get_or-set_other now.uses.connections count k this nobody apart

    here : connection_at count next.uses ≡ with_waiting (connection_at count start.uses) (connection_at count next.uses).waiting
    here = ap (λ cs. get_or cs count nobody) connections_are ∙ get_or-set_same now.uses.connections count this nobody
        (omega (arith, below, so_far.same))
        ∙ ap (λ c. with_waiting c (connection_at count next.uses).waiting) (so_far.each count)

    there : MayWaitAt lanes from first count start (place_of count indices)
        → (connection_at count next.uses).waiting ≡ left_at value_of header_of lanes from first (place_of count indices)
    there may = waits (may_still lanes from first count start now (place_of count indices)
        (filling_alike count start now so_far.rest (so_far.each count)) may)

-- once it has gone over all
pub all_filled : {T U : Type 0} (value_of : List ℕ → T) (header_of : List ℕ → Option ℕ × U) (lanes : World) (from : ℕ) (indices : List ℕ)
    (first : ℕ) (start now : SenderState T U) (count : ℕ)
    → Filling value_of header_of lanes from indices first start now count → count ≡ length start.uses.connections
    → (index : ℕ) → MayWaitAt lanes from first index start (place_of index indices)
    → (connection_at index now.uses).waiting ≡ left_at value_of header_of lanes from first (place_of index indices)
all_filled value_of header_of lanes from indices first start now count filled is index may = elim (cases_lt index count) [
  | inl below ↦ filled.waits index below may
  | inr beyond ↦ filled.empty index beyond ∙ nothing beyond (place_of index indices) may
]
  where
    nothing : count ≤ index → (place : Option ℕ) → MayWaitAt lanes from first index start place
        → [] ≡ left_at value_of header_of lanes from first place
    nothing beyond None may = refl
    nothing beyond (Some place) may = absurd (omega (arith, beyond, is, within start.uses.connections index may.live))

-- before it has begun
pub none_filled : {T U : Type 0} (value_of : List ℕ → T) (header_of : List ℕ → Option ℕ × U) (lanes : World) (from : ℕ) (indices : List ℕ)
    (first : ℕ) (start : SenderState T U)
    → AreLeft value_of header_of lanes.table first start.uses → ((index : ℕ) → (connection_at index start.uses).waiting ≡ [])
    → Filling value_of header_of lanes from indices first start start 0
none_filled value_of header_of lanes from indices first start left none = record {
  rest = refl;
  same = refl;
  each = λ index. refl;
  waits = λ index few may. absurd (omega (arith, few));
  empty = λ index beyond. none index;
  left = left;
}

pub filled_quiet : {T U : Type 0} (start now : SenderState T U)
    → now ≡ with_uses (record start.uses { connections = now.uses.connections }) start → IsQuiet start → IsQuiet now
filled_quiet start now rest quiet = record {
  idle = ap (λ s. s.uses.sending) rest ∙ quiet.idle;
  unlent = ap (λ s. s.uses.loans) rest ∙ quiet.unlent;
  room = omega (arith, quiet.room, ap (λ s. s.room) rest);
}

-- a cleared publisher is the one before without messages
pub cleared_is : {T U : Type 0} (old new : SenderState T U) → new ≡ with_uses new.uses old → IsCleared old.uses new.uses
    → new ≡ with_uses (record old.uses { history = []; connections = new.uses.connections }) old
cleared_is old new rest cleared = rest ∙ ap (λ uses. with_uses uses old) cleared.same

pub cleared_quiet : {T U : Type 0} (old new : SenderState T U) → new ≡ with_uses new.uses old → IsCleared old.uses new.uses
    → IsQuiet old → IsQuiet new
cleared_quiet old new rest cleared quiet = record {
  idle = ap (λ s. s.uses.sending) (cleared_is old new rest cleared) ∙ quiet.idle;
  unlent = ap (λ s. s.uses.loans) (cleared_is old new rest cleared) ∙ quiet.unlent;
  room = omega (arith, quiet.room, ap (λ s. s.room) (cleared_is old new rest cleared));
}

pub cleared_empty : {T U : Type 0} (old new : SenderState T U) → IsCleared old.uses new.uses → (index : ℕ)
    → (connection_at index new.uses).waiting ≡ []
cleared_empty old new cleared index = ap (λ c. c.waiting) (cleared.each index)

-- no message of it lies elsewhere than in its slot
pub cleared_left : {T U : Type 0} (value_of : List ℕ → T) (header_of : List ℕ → Option ℕ × U) (table : TableWords) (first : ℕ)
    (old new : SenderState T U) → IsCleared old.uses new.uses → NoneBorrowed old.uses → AreLeft value_of header_of table first new.uses
cleared_left value_of header_of table first old new cleared none = record {
  history = subst (All (IsLeft value_of header_of table first)) (sym (ap (λ u. u.history) cleared.same))
      (All-nil (IsLeft value_of header_of table first));
  connections = λ k d below.
      let here : get_or new.uses.connections k d ≡ connection_at k new.uses
      = get_or_from_slice_get new.uses.connections k (connection_at k new.uses) d
      (slice_get-get_or new.uses.connections k nobody below) in (
        subst (All (IsLeft value_of header_of table first)) (sym (ap (λ c. c.waiting) here ∙ cleared_empty old new cleared k))
            (All-nil (IsLeft value_of header_of table first)),
        subst (All (IsLeft value_of header_of table first))
            (sym (ap (λ c. c.borrowed) here ∙ ap (λ c. c.borrowed) (cleared.each k) ∙ none k))
            (All-nil (IsLeft value_of header_of table first)),
      );
}

-- what a publisher is once it has forgotten its messages, got what waits, and got the history
pub restored_is : {T U : Type 0} (value_of : List ℕ → T) (header_of : List ℕ → Option ℕ × U) (lanes : World) (from : ℕ) (indices : List ℕ)
    (first : ℕ) (history : List ℕ) (old mid next new : SenderState T U)
    → mid ≡ with_uses mid.uses old → IsCleared old.uses mid.uses
    → next ≡ with_uses (record mid.uses { connections = next.uses.connections }) mid
    → length next.uses.connections ≡ length mid.uses.connections
    → ((index : ℕ) → connection_at index next.uses ≡ with_waiting (connection_at index mid.uses) (connection_at index next.uses).waiting)
    → ((index : ℕ) → MayWaitAt lanes from first index mid (place_of index indices)
    → (connection_at index next.uses).waiting ≡ left_at value_of header_of lanes from first (place_of index indices))
    → OnlyRemembers next new → (MayRememberAll lanes.table history first next
    → new.uses.history ≡ messages_in value_of header_of lanes.table first history)
    → IsRestored value_of header_of lanes from indices first history old new
restored_is value_of header_of lanes from indices first history old mid next new mid_rest cleared next_is next_count next_each
    next_waits only remembers = record {
      rest = only ∙ ap (λ s. with_uses (record s.uses { history = new.uses.history }) s) next_is
          ∙ ap (λ s. with_uses (record s.uses { history = new.uses.history; connections = next.uses.connections }) s) mid_is
          ∙ ap (λ cs. with_uses (record old.uses { history = new.uses.history; connections = cs }) old) (sym connections_are);
      count = ap length connections_are ∙ next_count ∙ cleared.count;
      each = λ index. here index ∙ next_each index ∙ ap (λ c. with_waiting c (connection_at index next.uses).waiting) (cleared.each index)
          ∙ ap (λ c. with_waiting (connection_at index old.uses) c.waiting) (sym (here index));
      waits = λ index may. ap (λ c. c.waiting) (here index) ∙ next_waits index
          (may_still lanes from first index old mid (place_of index indices) (alike index) may);
      remembers = λ may. remembers (record {
        own = λ at slot is. own_still first slot lanes.table.sizes.slots old next next_first next_size (may.own at slot is);
        room = omega (arith, may.room, next_kept);
      });
    }
  where
    mid_is : mid ≡ with_uses (record old.uses { history = []; connections = mid.uses.connections }) old
    mid_is = cleared_is old mid mid_rest cleared

    connections_are : new.uses.connections ≡ next.uses.connections
    connections_are = ap (λ s. s.uses.connections) only

    here : (index : ℕ) → connection_at index new.uses ≡ connection_at index next.uses
    here index = ap (λ cs. get_or cs index nobody) connections_are

    alike : (index : ℕ) → IsAlike index old mid
    alike index = record {
      first = ap (λ s. s.uses.first) mid_is;
      size = ap (λ s. s.uses.size) mid_is;
      stage = ap (λ c. c.stage) (cleared.each index);
      limit = ap (λ c. c.limit) (cleared.each index);
    }

    next_first : next.uses.first ≡ old.uses.first
    next_first = ap (λ s. s.uses.first) next_is ∙ ap (λ s. s.uses.first) mid_is

    next_size : next.uses.size ≡ old.uses.size
    next_size = ap (λ s. s.uses.size) next_is ∙ ap (λ s. s.uses.size) mid_is

    next_kept : next.uses.kept ≡ old.uses.kept
    next_kept = ap (λ s. s.uses.kept) next_is ∙ ap (λ s. s.uses.kept) mid_is
