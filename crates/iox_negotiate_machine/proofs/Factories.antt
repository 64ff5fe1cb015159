-- The open factories of a table, in the phases of the machine.
use Rattle.std.proofs.Common.{◌≡◌, ℕ, ◌-◌, ◌^◌, ◌≤◌, ◌<◌, Bool, true, false, cond, List, [], ◌∷◌, Option, None, Some, is_some, length}
use Rattle.std.proofs.Common.{nat_lt, refl, sym, ap, subst, ◌∙◌, arith}
use Rattle.std.specs.List.{AllByRecursion}
use Rattle.iox_command.specs.NegotiateBase.Describe.Line.{Spells, line}
use Rattle.iox_command.specs.NegotiateBase.DescribeBase.Hash.{service_hash_of}
use Rattle.iox_command.specs.NegotiateBase.DescribeBase.declared.hash.ServiceHash.{ServiceHash}
use Rattle.iox_command.specs.NegotiateBase.DescribeBase.declared.pattern.MessagingPattern.{MessagingPattern}
use Rattle.iox_machine.specs.Agreement.{Agreement}
use Rattle.iox_machine.specs.Phase.{Node, Own, Phase, Absent, BeingMade, Published, Emptied, is_in}
use Rattle.iox_negotiate.specs.Counts.{AreCounted, any_of}
use Rattle.iox_negotiate.specs.Factories.{Factory, is_of, times}
use Rattle.iox_negotiate_machine.proofs.Acting.{last}
use Rattle.iox_negotiate_machine.proofs.OwnSeats.{counts-none, counts-some, own-in}
use Rattle.iox_negotiate_machine.specs.CallLaws.{HasFewFactories}
use Rattle.iox_negotiate_machine.specs.FactoryLaws.{OpenIsPublished, FewAreOpen}
use Rattle.iox_negotiate_machine.specs.Standing.{IsDescribed, IsLast, IsOpenTo, PhaseStands, description_of, table_node_of}
use Rattle.iox_negotiate_table.specs.Contents.{Contents, segment_at}
use Rattle.iox_negotiate_table.specs.Laws.{IsOpenIn}
use Rattle.iox_negotiate_table.specs.Nodes.{Nodes, factories_of}
use Rattle.iox_negotiate_table.specs.declared.entry.Entry.{Entry}
use Rattle.iox_negotiate_table.specs.declared.entry.Entry.TheVariants.{Locked, Described}
use Rattle.iox_negotiate_table.specs.declared.node.Node.{Node as TableNode}
use Rattle.iox_negotiate_table.specs.declared.segment.Segment.{Segment}
use Rattle.iox_negotiate_table.specs.declared.segment.Segment.TheVariants as segment

-- ---- what is open is published

not-absent : {X : Type 0} (number : ℕ) (bytes : List ℕ) → ◌≡◌ {A = Option Entry} None (Some (Described number bytes)) → X
not-absent number bytes e = absurd cc

not-locked : {X : Type 0} (by : TableNode) (at number : ℕ) (bytes : List ℕ)
    → ◌≡◌ {A = Option Entry} (Some (Locked by at)) (Some (Described number bytes)) → X
not-locked by at number bytes e = absurd cc

not-emptied : {X : Type 0} (by : TableNode) (nodes : Nodes)
    → ◌≡◌ {A = Option Segment} (Some (segment.Emptied by)) (Some (segment.Open nodes)) → X
not-emptied by nodes e = absurd cc

same-number : (one other : ℕ) (bytes text : List ℕ)
    → ◌≡◌ {A = Option Entry} (Some (Described one bytes)) (Some (Described other text)) → one ≡ other
same-number one other bytes text e = cc

same-bytes : (one other : ℕ) (bytes text : List ℕ)
    → ◌≡◌ {A = Option Entry} (Some (Described one bytes)) (Some (Described other text)) → bytes ≡ text
same-bytes one other bytes text e = cc

same-nodes : (one other : Nodes) → ◌≡◌ {A = Option Segment} (Some (segment.Open one)) (Some (segment.Open other)) → one ≡ other
same-nodes one other e = cc

module _ (pattern : MessagingPattern) (name : List ℕ) (table : Contents) where
  abbrev hash : ServiceHash
  hash = service_hash_of pattern name

  module _ (node number : ℕ) (bytes : List ℕ) (is_open : IsOpenIn hash number node bytes table) where
    -- the phase is that of the service that is open
    abbrev Here : List ℕ → Phase → Type 0
    Here numbers phase =
        (life : ℕ) × (agreed : Agreement) × (nodes : List (Node × ℕ)) × (phase ≡ Published life agreed nodes)
        × (is_in (Own node) nodes ≡ true)
        × IsLast (λ one. one ≡ number) numbers × Spells bytes (description_of pattern name agreed)

    there : (one life : ℕ) (agreed : Agreement) (nodes : List (Node × ℕ)) → IsDescribed pattern name table agreed one
        → (to : IsOpenTo pattern name table agreed nodes one)
        → (one ≡ number) × (is_in (Own node) nodes ≡ true) × Spells bytes (description_of pattern name agreed)
    there one life agreed nodes is to = (
      number_is,
      own-in node to.seated nodes to.nodes_stand
          ∙ ap (λ (seated : Nodes). is_some (factories_of seated node))
          (same-nodes to.seated is_open.nodes
          (sym (subst (λ (n : ℕ). segment_at hash n table ≡ Some (segment.Open to.seated)) number_is to.stands) ∙ is_open.stands))
          ∙ is_open.is_in,
      (
        is.version,
        is.said,
        sym (same-bytes one number (line is.version (description_of pattern name agreed)) bytes (sym is.described ∙ is_open.published)),
      ),
    )
      where
        number_is : one ≡ number
        number_is = same-number one number (line is.version (description_of pattern name agreed)) bytes
            (sym is.described ∙ is_open.published)

    pub open-published : (numbers : List ℕ) (phase : Phase) → PhaseStands pattern name table numbers phase → Here numbers phase
    open-published numbers (Absent lives) stands = not-absent number bytes (sym stands.lies ∙ is_open.published)
    open-published numbers (BeingMade life by) stands =
        not-locked (table_node_of by) (last numbers stands.lies).0 number bytes (sym (last numbers stands.lies).1 ∙ is_open.published)
    open-published [] (Published life agreed nodes) stands = absurd stands.lies
    open-published (one ∷ before) (Published life agreed nodes) stands =
        let so = there one life agreed nodes stands.lies.0 stands.lies.1 in (life, agreed, nodes, refl, so.1, so.0, so.2)
    open-published [] (Emptied life agreed by) stands = absurd stands.lies
    open-published (one ∷ before) (Emptied life agreed by) stands =
        not-emptied (table_node_of by) is_open.nodes
        (sym (subst (λ (n : ℕ). segment_at hash n table ≡ Some (segment.Emptied (table_node_of by)))
        (same-number one number (line stands.lies.0.version (description_of pattern name agreed)) bytes
        (sym stands.lies.0.described ∙ is_open.published))
        stands.lies.1)
        ∙ is_open.stands)

  -- ---- how many are open

  one-at-most : (b : Bool) → cond b 1 0 ≤ 1
  one-at-most true = omega arith
  one-at-most false = omega arith

  few-times : (number node : ℕ) (held : List Factory) → times number node held ≤ length held
  few-times number node [] = omega arith
  few-times number node (factory ∷ held) = omega (arith, one-at-most (is_of number node factory), few-times number node held)

  counted-is : (count some : ℕ) → any_of count ≡ Some some → some ≡ count
  counted-is count some e = there (nat_lt 0 count) e
    where
      there : (b : Bool) → cond b (Some count) None ≡ Some some → some ≡ count
      there true e = cc
      there false e = absurd cc

  module _ (node : ℕ) (held : List Factory) (counted : AreCounted held table) (few : length held < 2 ^ 64 - 1) where
    few-there : (number : ℕ) (agreed : Agreement) (nodes : List (Node × ℕ)) (life : ℕ) → IsDescribed pattern name table agreed number
        → (to : IsOpenTo pattern name table agreed nodes number) → HasFewFactories node (Published life agreed nodes)
    few-there number agreed nodes life is to = by-count (factories_of to.seated node) refl
      where
        below : (count : ℕ) → factories_of to.seated node ≡ Some count → count < 2 ^ 64 - 1
        below count has =
            let same : count ≡ times number node held =
            counted-is (times number node held) count
            (sym (counted hash number node (line is.version (description_of pattern name agreed)) to.seated is.described to.stands)
            ∙ has) in
            omega (arith, same, few, few-times number node held)

        by-count : (found : Option ℕ) → factories_of to.seated node ≡ found → HasFewFactories node (Published life agreed nodes)
        by-count None has = subst (λ (l : List ℕ). AllByRecursion (λ c. c < 2 ^ 64 - 1) l)
            (sym (counts-none node to.seated nodes to.nodes_stand has)) tt
        by-count (Some count) has = subst (λ (l : List ℕ). AllByRecursion (λ c. c < 2 ^ 64 - 1) l)
            (sym (counts-some node to.seated nodes to.nodes_stand count has)) (below count has, tt)

    pub few-open : (numbers : List ℕ) (phase : Phase) → PhaseStands pattern name table numbers phase → HasFewFactories node phase
    few-open numbers (Absent lives) stands = tt
    few-open numbers (BeingMade life by) stands = tt
    few-open [] (Published life agreed nodes) stands = absurd stands.lies
    few-open (number ∷ before) (Published life agreed nodes) stands = few-there number agreed nodes life stands.lies.0 stands.lies.1
    few-open numbers (Emptied life agreed by) stands = tt

pub open-is-published : (T : Type 0) → OpenIsPublished T
open-is-published T names pattern name node number bytes taken table state asked stands is_open =
    open-published pattern name table node number bytes is_open (taken pattern name) (state.phases pattern name)
    (stands.phases pattern name asked)

pub few-are-open : (T : Type 0) → FewAreOpen T
few-are-open T names pattern name node held taken table state asked stands counted few =
    few-open pattern name table node held counted few (taken pattern name) (state.phases pattern name) (stands.phases pattern name asked)
