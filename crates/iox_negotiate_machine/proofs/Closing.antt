-- A factory is closed: its node leaves, and the last one removes the service.
use Rattle.std.proofs.Common.{◌≡◌, ℕ, ◌-◌, ◌≤◌, Bool, true, false, cond, ◌&&◌, not, List, [], ◌∷◌, Option, None, Some, is_some, Result}
use Rattle.std.proofs.Common.{Ok, length, nat_eq, nat_lt, refl, sym, ap, subst, ◌∙◌, arith}
use Rattle.std.proofs.lemmas.Bool.{eq-eqb, eqb-true}
use Rattle.std.proofs.lemmas.Bool.Decides.{nat_tests}
use Rattle.std.specs.BTreeMap.{is_at}
use Rattle.std.specs.List.{IsAmong}
use Rattle.std.specs.Map.{remove_entry, set_value}
use Rattle.std.specs.Ordering.{nat_cmp}
use Rattle.iox_command.specs.NegotiateBase.Describe.Line.{line}
use Rattle.iox_command.specs.NegotiateBase.DescribeBase.Hash.{service_hash_of}
use Rattle.iox_command.specs.NegotiateBase.DescribeBase.declared.hash.ServiceHash.{ServiceHash}
use Rattle.iox_command.specs.NegotiateBase.DescribeBase.declared.pattern.MessagingPattern.{MessagingPattern}
use Rattle.iox_command.specs.NegotiateBase.declared.errors.close.CloseError.{CloseError}
use Rattle.iox_machine.specs.Agreement.{Agreement}
use Rattle.iox_machine.specs.Phase.{Node, Own, Phase, Absent, Published, Emptied, is_in, left, removed_by, same_node, same_pattern}
use Rattle.iox_machine.proofs.Shorthands.{closed_by}
use Rattle.iox_machine.specs.State.{State, with_phase}
use Rattle.std.specs.Prelude.{bytes_eq, nat_le}
use Rattle.iox_negotiate.proofs.Changes.{place-apart}
use Rattle.iox_negotiate.proofs.Closing.{entry-gone, segment-gone}
use Rattle.iox_negotiate.proofs.Maps.{by_test, no, on, remove-apart}
use Rattle.iox_negotiate.proofs.Tables.{reached}
use Rattle.iox_negotiate.specs.Factory.{Closes, LeaveGoes, RemovalGoes, Removes, RemovesSegment, segment_removed}
use Rattle.iox_negotiate.specs.Histories.{Accesses, IsReached}
use Rattle.iox_negotiate_machine.proofs.Acted.{Leaves, all-stand, later, left-by, left-then, named}
use Rattle.iox_negotiate_machine.proofs.Acting.{emptied, places-apart, reopened, undescribed}
use Rattle.iox_negotiate_machine.proofs.OwnSeats.{own-goes, own-in, own-less}
use Rattle.iox_negotiate_machine.proofs.Seats.{node-itself}
use Rattle.iox_negotiate_machine.specs.CloseLaws.{CloseMatches}
use Rattle.iox_negotiate_machine.specs.Laws.{HaveOwnHashes}
use Rattle.iox_negotiate_machine.specs.Standing.{IsDescribed, IsLast, IsOpenTo, NodesStand, PhaseStands, TableStands, description_of}
use Rattle.iox_negotiate_table.proofs.Entries.{lookup-set}
use Rattle.iox_negotiate_table.specs.Contents.{Contents, entry_at, is_published, may_remove_description, may_remove_segment, place_cmp}
use Rattle.iox_negotiate_table.specs.Contents.{segment_at, with_segment, without_entry, without_segment}
use Rattle.iox_negotiate_table.specs.NegotiateBase.Access.{Access, Leave, RemoveDescription, RemoveSegment}
use Rattle.iox_negotiate_table.specs.NegotiateBase.Runs.{Went}
use Rattle.iox_negotiate_table.specs.NegotiateBase.declared.answer.LeaveAnswer.{LeaveAnswer}
use Rattle.iox_negotiate_table.specs.NegotiateBase.declared.answer.LeaveAnswer.TheVariants as leaving
use Rattle.iox_negotiate_table.specs.NegotiateBase.declared.answer.RemoveAnswer.{RemoveAnswer}
use Rattle.iox_negotiate_table.specs.NegotiateBase.declared.answer.RemoveAnswer.TheVariants as removing
use Rattle.iox_negotiate_table.specs.Nodes.{Nodes, count_in, factories_of, left as left_in, less_one}
use Rattle.iox_negotiate_table.specs.Segments.{closed_if, leave_answer}
use Rattle.iox_negotiate_table.specs.Sights as sights
use Rattle.iox_negotiate_table.specs.Sights.{Sight}
use Rattle.iox_negotiate_table.specs.declared.entry.Entry.TheVariants.{Described}
use Rattle.iox_negotiate_table.specs.declared.node.Node.TheVariants as table_node
use Rattle.iox_negotiate_table.specs.declared.segment.Segment.{Segment}
use Rattle.iox_negotiate_table.specs.declared.segment.Segment.TheVariants as segment

more-than : (count : ℕ) (b : Bool) → nat_le count 1 ≡ b → nat_lt 1 count ≡ not b
more-than count true is = grind (arith, nat_tests, is)
more-than count false is = grind (arith, nat_tests, is)

-- who leaves a segment leaves the phase
pub leaves-both : (node : ℕ) (seated : Nodes) (nodes : List (Node × ℕ)) → NodesStand seated nodes → is_in (Own node) nodes ≡ true
    → NodesStand (left_in node seated) (left (Own node) nodes)
leaves-both node seated nodes stands is = by-count (factories_of seated node) refl
  where
    by-last : (count : ℕ) → factories_of seated node ≡ Some count → (b : Bool) → nat_le count 1 ≡ b
        → NodesStand (less_one seated node (Some count)) (left (Own node) nodes)
    by-last count has true last = rw (more-than count true last) (own-goes node seated nodes stands count has last)
    by-last count has false more = rw (more-than count false more) (own-less node seated nodes stands count has more)

    by-count : (found : Option ℕ) → factories_of seated node ≡ found → NodesStand (left_in node seated) (left (Own node) nodes)
    by-count None has = no (ap (λ (o : Option ℕ). is_some o) (sym has) ∙ sym (own-in node seated nodes stands) ∙ is)
    by-count (Some count) has =
        subst (λ (found : Option ℕ). NodesStand (less_one seated node found) (left (Own node) nodes)) (sym has)
        (by-last count has (nat_le count 1) refl)

leaves-room : (node : ℕ) (seated : Nodes) → (left_in node seated).max_nodes ≡ seated.max_nodes
leaves-room node seated = by-count (factories_of seated node)
  where
    by-last : (count : ℕ) (b : Bool) → (cond b (record seated { own = set_value (is_at (nat_cmp node)) seated.own (count - 1) })
        (record seated { own = remove_entry (is_at (nat_cmp node)) seated.own })).max_nodes ≡ seated.max_nodes
    by-last count true = refl
    by-last count false = refl

    by-count : (found : Option ℕ) → (less_one seated node found).max_nodes ≡ seated.max_nodes
    by-count None = refl
    by-count (Some count) = by-last count (nat_lt 1 count)

module _ (pattern : MessagingPattern) (name : List ℕ) (taken : List ℕ) (node number life : ℕ) (agreed : Agreement)
    (nodes : List (Node × ℕ)) (old : Contents) (stands : PhaseStands pattern name old taken (Published life agreed nodes))
    (is : is_in (Own node) nodes ≡ true) (at : IsLast (λ last. last ≡ number) taken) (was : IsReached old) where
  abbrev hash : ServiceHash
  hash = service_hash_of pattern name

  here : IsDescribed pattern name old agreed number × IsOpenTo pattern name old agreed nodes number
  here = to-number _ taken at stands.lies
    where
      to-number : (So : ℕ → Type 0) (numbers : List ℕ) → IsLast (λ one. one ≡ number) numbers → IsLast So numbers → So number
      to-number So [] at so = absurd so
      to-number So (one ∷ before) at so = subst So at so

  -- The effect of a closing: the phase of the machine, and no change under other hashes.
  abbrev pub IsClosed : Result (Unit {0}) CloseError → Contents → Type 0
  IsClosed result new =
      (result ≡ Ok tt) × Leaves hash old new × PhaseStands pattern name new taken (closed_by node (Published life agreed nodes))

  -- the phase once the node left
  abbrev gone : Phase → Phase
  gone phase = removed_by (Own node) phase

  itself : nat_eq number number ≡ true
  itself = eq-eqb number number refl

  module _ (mid : Contents) (leaves : Leaves hash old mid) (stays : PhaseStands pattern name mid taken (Emptied life agreed (Own node)))
      (described : entry_at hash mid ≡ Some (Described number (line here.0.version (description_of pattern name agreed))))
      (seat : segment_at hash number mid ≡ Some (segment.Emptied (table_node.Own node))) where
    -- the description goes first
    removes-first : (answer : RemoveAnswer) (after : Contents) → Sight mid (RemoveDescription hash number answer) after
        → (answer ≡ removing.Removed) × (after ≡ without_entry hash mid)
    removes-first answer after h = there (may_remove_description hash number mid) may h
      where
        may : may_remove_description hash number mid ≡ true
        may = rw described (rw itself (rw seat refl))

        there : (b : Bool) → b ≡ true → sights.Removes b (without_entry hash mid) mid answer after
            → (answer ≡ removing.Removed) × (after ≡ without_entry hash mid)
        there true ok h = h
        there false ok h = on (sym ok)

    -- then the segment
    removes-then : (answer : RemoveAnswer) (then after : Contents) → then ≡ without_entry hash mid
        → Sight then (RemoveSegment hash number answer) after
        → (answer ≡ removing.Removed) × (after ≡ without_segment hash number (without_entry hash mid))
    removes-then answer then after then_is h =
        there (may_remove_segment hash number (without_entry hash mid)) may
        (subst (λ (t : Contents). Sight t (RemoveSegment hash number answer) after) then_is h)
      where
        may : may_remove_segment hash number (without_entry hash mid) ≡ true
        may = rw (entry-gone hash mid (reached mid leaves.reached)) (rw seat refl)

        there : (b : Bool) → b ≡ true
            → sights.Removes b (without_segment hash number (without_entry hash mid)) (without_entry hash mid) answer after
            → (answer ≡ removing.Removed) × (after ≡ without_segment hash number (without_entry hash mid))
        there true ok h = h
        there false ok h = on (sym ok)

    all-gone : (then after : Contents) → then ≡ without_entry hash mid → after ≡ without_segment hash number (without_entry hash mid)
        → PhaseStands pattern name after taken (Absent life)
    all-gone then after then_is after_is = rw after_is (record {
      lives = stands.lives;
      falling = stays.falling;
      lies = entry-gone hash mid (reached mid leaves.reached);
      segments = λ n isnt. by_test (nat_eq number n)
          (λ same. subst (λ (m : ℕ). segment_at hash m (without_segment hash number mid) ≡ None) (eqb-true number n same)
          (segment-gone hash number mid (reached mid leaves.reached)))
          (λ differ. remove-apart (is_at (place_cmp (hash.digest, number))) (is_at (place_cmp (hash.digest, n)))
          (place-apart (hash.digest, number) (hash.digest, n) (places-apart hash number n differ)) mid.segments
          ∙ stays.segments n (undescribed hash mid described n differ));
    })

    absent-then : closed_by node (Published life agreed nodes) ≡ gone (Emptied life agreed (Own node))
        → closed_by node (Published life agreed nodes) ≡ Absent life
    absent-then same = same ∙ there (same_node (Own node) (Own node)) (node-itself (Own node))
      where
        there : (b : Bool) → b ≡ true → cond b (Absent life) (Emptied life agreed (Own node)) ≡ Absent life
        there true ok = refl
        there false ok = no ok

    removes-all : (made : List Access) (result : Result (Unit {0}) CloseError) (new : Contents)
        → closed_by node (Published life agreed nodes) ≡ gone (Emptied life agreed (Own node))
        → Removes hash number made result → Went Sight mid made new → IsClosed result new
    removes-all (RemoveDescription under of answer ∷ rest) result new same (own_hash, same_number, goes) (then, sight, went) =
        let one = removes-first answer then (subst (λ (n : ℕ). Sight mid (RemoveDescription hash n answer) then) same_number
        (subst (λ (h : ServiceHash). Sight mid (RemoveDescription h of answer) then) own_hash sight)) in
        second rest then one.1 (left-by (Accesses (RemoveDescription under of answer)) mid then leaves.reached sight) own_hash
        (subst (λ (a : RemoveAnswer). RemovalGoes hash number a rest result) one.0 goes) went
      where
        second : (rest : List Access) (then : Contents) → then ≡ without_entry hash mid → Leaves under mid then → under ≡ hash
            → RemovesSegment hash number rest result → Went Sight then rest new → IsClosed result new
        second (RemoveSegment below at_number last ∷ more) then then_is first own_hash (own_too, number_too, none, told)
            (after, sight, went) =
            let two = removes-then last then after then_is (subst (λ (n : ℕ). Sight then (RemoveSegment hash n last) after) number_too
            (subst (λ (h : ServiceHash). Sight then (RemoveSegment h at_number last) after) own_too sight)) in
            let end : new ≡ after = subst (λ (l : List Access). Went Sight after l new) none went in (
              told ∙ ap segment_removed two.0,
              subst (λ (t : Contents). Leaves hash old t) (sym end)
                  (left-then hash old then after
                  (left-then hash old mid then leaves (subst (λ (h : ServiceHash). Leaves h mid then) own_hash first))
                  (subst (λ (h : ServiceHash). Leaves h then after) own_too
                  (left-by (Accesses (RemoveSegment below at_number last)) then after first.reached sight))),
              subst (λ (t : Contents). PhaseStands pattern name t taken (closed_by node (Published life agreed nodes))) (sym end)
                  (subst (λ (phase : Phase). PhaseStands pattern name after taken phase) (sym (absent-then same))
                  (all-gone then after then_is two.1)),
            )
        second rest then then_is first own_hash told went = absurd told
    removes-all made result new same told went = absurd told

  -- the node leaves
  left-so : (answer : LeaveAnswer) (mid : Contents) → Sight old (Leave hash number node answer) mid
      → (answer ≡ leave_answer (segment.Open here.1.seated)
      (closed_if (nat_eq (count_in (left_in node here.1.seated)) 0) (table_node.Own node) (left_in node here.1.seated)))
      × (mid ≡ with_segment hash number
      (closed_if (nat_eq (count_in (left_in node here.1.seated)) 0) (table_node.Own node) (left_in node here.1.seated)) old)
  left-so answer mid h =
      subst (λ (s : Option Segment). sights.LeavesPublished s hash number node old answer mid) here.1.stands
      (subst (λ (b : Bool). sights.LeavesAt b (segment_at hash number old) hash number node old answer mid) flag h)
    where
      flag : is_published hash number old ≡ true
      flag = rw here.0.described itself

  stay : NodesStand (left_in node here.1.seated) (left (Own node) nodes)
  stay = leaves-both node here.1.seated nodes here.1.nodes_stand is

  none-left : (n m : ℕ) → n ≡ m → m ≡ 0 → nat_eq n 0 ≡ true
  none-left n m same none = grind (arith, same, none)

  some-left : (n m : ℕ) → n ≡ m → 1 ≤ m → nat_eq n 0 ≡ false
  some-left n m same some = grind (arith, same, some)

  -- what it leaves, by who is in then
  leaves-then : (who : List (Node × ℕ)) → left (Own node) nodes ≡ who → (answer : LeaveAnswer) (rest : List Access) (mid new : Contents)
      (result : Result (Unit {0}) CloseError) → Leaves hash old mid → Sight old (Leave hash number node answer) mid
      → LeaveGoes hash number answer rest result → Went Sight mid rest new → IsClosed result new
  leaves-then [] are answer rest mid new result leaves sight goes went =
      let so = left-so answer mid sight in
      let none : nat_eq (count_in (left_in node here.1.seated)) 0 ≡ true =
      none-left (count_in (left_in node here.1.seated)) (length (left (Own node) nodes)) (sym stay.many)
      (ap (λ (l : List (Node × ℕ)). length l) are) in
      let mid_is : mid ≡ with_segment hash number (segment.Emptied (table_node.Own node)) old =
      subst (λ (b : Bool). mid ≡ with_segment hash number (closed_if b (table_node.Own node) (left_in node here.1.seated)) old) none so.1 in
      let answer_is : answer ≡ leaving.Emptied =
      subst (λ (b : Bool). answer ≡ leave_answer (segment.Open here.1.seated)
      (closed_if b (table_node.Own node) (left_in node here.1.seated))) none so.0 in
      let over : PhaseStands pattern name mid taken (Emptied life agreed (Own node)) =
      emptied pattern name old mid taken life agreed number (segment.Open here.1.seated) stands.lives stands.falling at here.0 here.1.stands
      stands.segments (Own node) mid_is in
      removes-all mid leaves over (subst (λ (t : Contents). entry_at hash t ≡ Some
      (Described number (line here.0.version (description_of pattern name agreed)))) (sym mid_is)
      here.0.described)
      (subst (λ (t : Contents). segment_at hash number t ≡ Some (segment.Emptied (table_node.Own node))) (sym mid_is)
      (lookup-set (is_at (place_cmp (hash.digest, number))) old.segments (segment.Emptied (table_node.Own node)) (rw here.1.stands refl)))
      rest result new phase-is (subst (λ (a : LeaveAnswer). LeaveGoes hash number a rest result) answer_is goes) went
    where
      phase-is : closed_by node (Published life agreed nodes) ≡ gone (Emptied life agreed (Own node))
      phase-is = rw is (rw are refl)
  leaves-then (entry ∷ more) are answer rest mid new result leaves sight goes went =
      let so = left-so answer mid sight in
      let some : nat_eq (count_in (left_in node here.1.seated)) 0 ≡ false =
      some-left (count_in (left_in node here.1.seated)) (length (left (Own node) nodes)) (sym stay.many)
      (subst (λ (l : List (Node × ℕ)). 1 ≤ length l) (sym are) (omega arith)) in
      let mid_is : mid ≡ with_segment hash number (segment.Open (left_in node here.1.seated)) old =
      subst (λ (b : Bool). mid ≡ with_segment hash number (closed_if b (table_node.Own node) (left_in node here.1.seated)) old) some so.1 in
      let answer_is : answer ≡ leaving.Stays =
      subst (λ (b : Bool). answer ≡ leave_answer (segment.Open here.1.seated)
      (closed_if b (table_node.Own node) (left_in node here.1.seated))) some so.0 in
      let goes_on : LeaveGoes hash number leaving.Stays rest result = subst (λ (a : LeaveAnswer). LeaveGoes hash number a rest result)
      answer_is goes in
      let end : new ≡ mid = subst (λ (l : List Access). Went Sight mid l new) goes_on.0 went in (
        goes_on.1,
        subst (λ (t : Contents). Leaves hash old t) (sym end) leaves,
        subst (λ (t : Contents). PhaseStands pattern name t taken (closed_by node (Published life agreed nodes))) (sym end)
            (subst (λ (phase : Phase). PhaseStands pattern name mid taken phase) (sym phase-is)
            (reopened pattern name old mid taken life agreed number (segment.Open here.1.seated) stands.lives stands.falling at here.0
            here.1.stands stands.segments (entry ∷ more) (left_in node here.1.seated)
            (subst (λ (l : List (Node × ℕ)). NodesStand (left_in node here.1.seated) l) are stay)
            (leaves-room node here.1.seated ∙ here.1.room) mid_is)),
      )
    where
      phase-is : closed_by node (Published life agreed nodes) ≡ Published life agreed (entry ∷ more)
      phase-is = rw is (rw are refl)

  pub closes : (made : List Access) (result : Result (Unit {0}) CloseError) (new : Contents) → Closes hash number node made result
      → Went Sight old made new → IsClosed result new
  closes (Leave under of by answer ∷ rest) result new (own_hash, same, who, goes) (mid, sight, went) =
      leaves-then (left (Own node) nodes) refl answer rest mid new result
      (subst (λ (h : ServiceHash). Leaves h old mid) own_hash (left-by (Accesses (Leave under of by answer)) old mid was sight))
      (subst (λ (w : ℕ). Sight old (Leave hash number w answer) mid) who
      (subst (λ (n : ℕ). Sight old (Leave hash n by answer) mid) same
      (subst (λ (h : ServiceHash). Sight old (Leave h of by answer) mid) own_hash sight))) goes went
  closes made result new told went = absurd told

module _ (names : List (List ℕ)) (own : HaveOwnHashes names) (pattern : MessagingPattern) (name : List ℕ) (asked : IsAmong names name)
    (taken : MessagingPattern → List ℕ → List ℕ) where
  none-later : (one : MessagingPattern) (other : List ℕ) → later names own pattern name asked taken [] one other ≡ taken one other
  none-later one other = there (same_pattern one pattern && bytes_eq other name) refl
    where
      there : (b : Bool) → (same_pattern one pattern && bytes_eq other name) ≡ b
          → cond b (taken pattern name) (taken one other) ≡ taken one other
      there true same =
          let is = named names own pattern name asked taken one other same in
          sym (ap (λ (p : MessagingPattern). taken p other) is.0 ∙ ap (λ (n : List ℕ). taken pattern n) is.1)
      there false differ = refl

  -- no number was taken
  same-numbers : {T : Type 0} (table : Contents) (state : State T)
      → TableStands names (later names own pattern name asked taken []) table state
      → TableStands names taken table state
  same-numbers table state stands = record {
    reached = stands.reached;
    phases = λ one other among. subst (λ (l : List ℕ). PhaseStands one other table l (state.phases one other)) (none-later one other)
        (stands.phases one other among);
  }

pub close-matches : (T : Type 0) → CloseMatches T
close-matches T names pattern name node number life agreed nodes taken old new result state own asked stands phase_is is at h =
    let closed = closes pattern name (taken pattern name) node number life agreed nodes old
    (subst (λ (phase : Phase). PhaseStands pattern name old (taken pattern name) phase) phase_is (stands.phases pattern name asked)) is at
    stands.reached
    h.made result new h.told h.went in (
      closed.0,
      same-numbers names own pattern name asked taken new (with_phase pattern name (closed_by node (state.phases pattern name)) state)
          (all-stand names own pattern name asked taken old new state stands closed.1 [] (closed_by node (state.phases pattern name))
          (subst (λ (phase : Phase). PhaseStands pattern name new (taken pattern name) (closed_by node phase)) (sym phase_is) closed.2)),
    )
