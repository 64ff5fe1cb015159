-- A publisher that goes over its connections.
use Rattle.std.proofs.Common.{arith, ◌≡◌, ◌≢◌, ◌+◌, ◌<◌, ◌≤◌, ℕ, [], length, get_or, set, sym, subst, ap, inl, inr, ◌∙◌}
use Rattle.std.proofs.Math.Logic.{⊎_elim}
use Rattle.std.proofs.lemmas.Bool.{cases_lt}
use Rattle.std.proofs.lemmas.Bool.Decides.{eqb_tells}
use Rattle.std.proofs.lemmas.List.{get_or_past, get_or-set_same, get_or-set_other, length-set}
use Rattle.iox_domain_ports.specs.DomainSlots.Uses.{Uses, nobody, connection_at, with_connection, emptied}
use Rattle.iox_domain_ports.specs.MessagesSending.{SenderState, with_uses}
use Rattle.iox_lanes_opening.specs.Clearing.{NoneBorrowed}

-- where nothing is borrowed of the connections that there are, nothing is of any
pub none_of_any : {L X : Type 0} (uses : Uses L X) (count : ℕ) → count ≡ length uses.connections
    → ((k : ℕ) → k < count → (connection_at k uses).borrowed ≡ []) → NoneBorrowed uses
none_of_any uses count is none index = elim (cases_lt index count) [
  | inl below ↦ none index below
  | inr beyond ↦ ap (λ c. c.borrowed) (get_or_past uses.connections index nobody (omega (arith, beyond, is)))
]

-- one connection more of which nothing is borrowed
pub none_of_one_more : {L X : Type 0} (uses : Uses L X) (count : ℕ) → ((k : ℕ) → k < count → (connection_at k uses).borrowed ≡ [])
    → (connection_at count uses).borrowed ≡ []
    → (k : ℕ) → k < count + 1 → (connection_at k uses).borrowed ≡ []
none_of_one_more uses count none this k below = ⊎_elim
    (λ same. subst (λ i. (connection_at i uses).borrowed ≡ []) (sym same.1) this)
    (λ other. none k (omega (arith, below, other.1)))
    (eqb_tells k count)

-- nothing waits at the first connections any longer
pub record Losing {T U : Type 0} (start now : SenderState T U) (count : ℕ) : Type 0 where
  pub rest : now ≡ with_uses (record start.uses { connections = now.uses.connections }) start
  pub same : length now.uses.connections ≡ length start.uses.connections
  pub done : (k : ℕ) → k < count → connection_at k now.uses ≡ emptied (connection_at k start.uses)
  pub left : (k : ℕ) → count ≤ k → connection_at k now.uses ≡ connection_at k start.uses

-- nor at one more
pub one_lost : {T U : Type 0} (start now next : SenderState T U) (count : ℕ) → Losing start now count
    → count < length start.uses.connections
    → next ≡ with_uses (with_connection count (emptied (connection_at count now.uses)) now.uses) now → Losing start next (count + 1)
one_lost start now next count so_far within is = record {
  rest = is ∙ ap (λ s. with_uses (record s.uses
      { connections = set now.uses.connections count (emptied (connection_at count now.uses)) }) s) so_far.rest ∙ ap
      (λ cs. with_uses (record start.uses { connections = cs }) start) (sym connections_are);
  same = ap length connections_are ∙ length-set now.uses.connections count (emptied (connection_at count now.uses)) ∙ so_far.same;
  done = λ k below. ⊎_elim
      (λ same. subst (λ i. connection_at i next.uses ≡ emptied (connection_at i start.uses)) (sym same.1)
      (ap (λ cs. get_or cs count nobody) connections_are ∙ get_or-set_same now.uses.connections count
      (emptied (connection_at count now.uses)) nobody (omega (arith, within, so_far.same))
      ∙ ap emptied (so_far.left count (omega arith))))
      (λ other. elsewhere k other.1 ∙ so_far.done k (omega (arith, below, other.1)))
      (eqb_tells k count);
  left = λ k beyond. elsewhere k (λ same. absurd (omega (arith, beyond, same))) ∙ so_far.left k (omega (arith, beyond));
}
  where
    connections_are : next.uses.connections ≡ set now.uses.connections count (emptied (connection_at count now.uses))
    connections_are = ap (λ s. s.uses.connections) is

    elsewhere : (k : ℕ) → k ≢ count → connection_at k next.uses ≡ connection_at k now.uses
    elsewhere k apart = ap (λ cs. get_or cs k nobody) connections_are ∙ get_or-set_other now.uses.connections count k
        (emptied (connection_at count now.uses)) nobody apart

-- once it has gone over all
pub all_lost : {T U : Type 0} (start now : SenderState T U) (count : ℕ) → Losing start now count → count ≡ length start.uses.connections
    → (k : ℕ) → connection_at k now.uses ≡ emptied (connection_at k start.uses)
all_lost start now count lost is k = elim (cases_lt k count) [
  | inl below ↦ lost.done k below
  | inr beyond ↦ let past : connection_at k start.uses ≡ nobody
      = get_or_past start.uses.connections k nobody (omega (arith, beyond, is)) in lost.left k beyond ∙ past ∙ ap emptied (sym past)
]
