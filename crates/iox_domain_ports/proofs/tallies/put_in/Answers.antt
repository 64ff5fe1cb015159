use Rattle.std.proofs.Common.{rules, arith, ◌≡◌, ◌<◌, ◌≤◌, ◌∙◌, length, Ok, Err, sym, ap, subst}
use Rattle.std.specs.BTreeMap.{is_at}
use Rattle.std.specs.List.{HoldsAt, insert}
use Rattle.std.specs.List.Sorted.{IsBinarySearchResult}
use Rattle.std.specs.Ordering.{nat_cmp}
use Rattle.std.specs.Prelude.{unwrap_or}
use Rattle.std.specs.Vec.{vec_capacity, vec_len}
use Rattle.iox_container.proofs.Numbers.{absent_stays, higher-from, inserted-at, lower-before, removed-at, stands-at}
use Rattle.iox_domain_ports.proofs.Tallying.{none-at, set-at, sound_inserted, sound_removed, with_none, with_some}
use Rattle.iox_domain_ports.proofs.tallies.put_in.Goals as goal

pub returns-then-count-eq0-clause-counts : goal.returns-then-count-eq0-clause-counts
returns-then-count-eq0-clause-counts c =
    let items = c.args.items.now.items in
    let within : c.in-Ok.place < length items
    = subst (λ items. c.in-Ok.place < length items) c.as_slice.ensures.value c.in-Ok.ensures.bound in
    let found : HoldsAt (λ entry. entry.0 ≡ c.args.number) items c.in-Ok.place
    = stands-at c.args.number items c.requires.tally.rises c.in-Ok.place
    (subst (λ items. IsBinarySearchResult (λ entry. nat_cmp entry.0 c.args.number) items (Ok c.in-Ok.place)) c.as_slice.ensures.value
    c.in-Ok.ensures.position) in
    let zero = c.if-count-eq0.true in
    c.remove.ensures.items ∙ removed-at c.args.number c.in-Ok.place c.remove.result items c.requires.tally.rises within found
    ∙ sym (with_none c.args.number c.args.count items (grind arith))

pub returns-then-count-eq0-clause-tally : goal.returns-then-count-eq0-clause-tally
returns-then-count-eq0-clause-tally c =
    let items = c.args.items.now.items in
    let within : c.in-Ok.place < length items
    = subst (λ items. c.in-Ok.place < length items) c.as_slice.ensures.value c.in-Ok.ensures.bound in
    let found : HoldsAt (λ entry. entry.0 ≡ c.args.number) items c.in-Ok.place
    = stands-at c.args.number items c.requires.tally.rises c.in-Ok.place
    (subst (λ items. IsBinarySearchResult (λ entry. nat_cmp entry.0 c.args.number) items (Ok c.in-Ok.place)) c.as_slice.ensures.value
    c.in-Ok.ensures.position) in
    rw (c.remove.ensures.items ∙ removed-at c.args.number c.in-Ok.place c.remove.result items c.requires.tally.rises within found)
    (sound_removed c.args.number items c.requires.tally)

pub returns-else-count-eq0-clause-counts : goal.returns-else-count-eq0-clause-counts
returns-else-count-eq0-clause-counts c =
    let items = c.args.items.now.items in
    let within : c.in-Ok.place < length items
    = subst (λ items. c.in-Ok.place < length items) c.as_slice.ensures.value c.in-Ok.ensures.bound in
    let found : HoldsAt (λ entry. entry.0 ≡ c.args.number) items c.in-Ok.place
    = stands-at c.args.number items c.requires.tally.rises c.in-Ok.place
    (subst (λ items. IsBinarySearchResult (λ entry. nat_cmp entry.0 c.args.number) items (Ok c.in-Ok.place)) c.as_slice.ensures.value
    c.in-Ok.ensures.position) in
    let other = c.if-count-eq0.false in
    let some : 0 < c.args.count = grind arith in
    set-at c.args.number c.in-Ok.place c.args.count items c.requires.tally.rises within found
    ∙ sym (with_some c.args.number c.args.count items some)

pub returns-else-count-eq0-clause-tally : goal.returns-else-count-eq0-clause-tally
returns-else-count-eq0-clause-tally c =
    let items = c.args.items.now.items in
    let within : c.in-Ok.place < length items
    = subst (λ items. c.in-Ok.place < length items) c.as_slice.ensures.value c.in-Ok.ensures.bound in
    let found : HoldsAt (λ entry. entry.0 ≡ c.args.number) items c.in-Ok.place
    = stands-at c.args.number items c.requires.tally.rises c.in-Ok.place
    (subst (λ items. IsBinarySearchResult (λ entry. nat_cmp entry.0 c.args.number) items (Ok c.in-Ok.place)) c.as_slice.ensures.value
    c.in-Ok.ensures.position) in
    let other = c.if-count-eq0.false in
    let some : 0 < c.args.count = grind arith in
    rw (set-at c.args.number c.in-Ok.place c.args.count items c.requires.tally.rises within found)
    (sound_inserted c.args.number c.args.count items some c.requires.tally)

pub returns-then-count-ne0-clause-counts : goal.returns-then-count-ne0-clause-counts
returns-then-count-ne0-clause-counts c =
    let items = c.args.items.now.items in
    let within : c.in-Err.place ≤ length items
    = subst (λ items. c.in-Err.place ≤ length items) c.as_slice.ensures.value c.in-Err.ensures.bound in
    let parted : IsBinarySearchResult (λ entry. nat_cmp entry.0 c.args.number) items (Err c.in-Err.place)
    = subst (λ items. IsBinarySearchResult (λ entry. nat_cmp entry.0 c.args.number) items (Err c.in-Err.place)) c.as_slice.ensures.value
    c.in-Err.ensures.position in
    let none = none-at c.args.number c.in-Err.place items c.requires.tally.rises parted in
    let other = c.if-count-ne0.true in
    let some : 0 < c.args.count = grind arith in
    let room : vec_len c.args.items.now < vec_capacity c.args.items.now
    = omega (arith, c.requires.room some (ap (λ found. unwrap_or found 0) none), c.args.items.now.ok.0) in
    let came : c.insert.new.self.items ≡ insert items c.in-Err.place (c.args.number, c.args.count)
    = search (rules, c.insert.ensures.items, c.insert.ensures.succeeds room) in
    let as_entry = inserted-at c.args.number c.in-Err.place c.args.count items within
    (lower-before c.args.number items c.requires.tally.rises c.in-Err.place parted)
    (higher-from c.args.number items c.requires.tally.rises c.in-Err.place parted) in
    came ∙ as_entry ∙ sym (with_some c.args.number c.args.count items some)

pub returns-then-count-ne0-clause-tally : goal.returns-then-count-ne0-clause-tally
returns-then-count-ne0-clause-tally c =
    let items = c.args.items.now.items in
    let within : c.in-Err.place ≤ length items
    = subst (λ items. c.in-Err.place ≤ length items) c.as_slice.ensures.value c.in-Err.ensures.bound in
    let parted : IsBinarySearchResult (λ entry. nat_cmp entry.0 c.args.number) items (Err c.in-Err.place)
    = subst (λ items. IsBinarySearchResult (λ entry. nat_cmp entry.0 c.args.number) items (Err c.in-Err.place)) c.as_slice.ensures.value
    c.in-Err.ensures.position in
    let none = none-at c.args.number c.in-Err.place items c.requires.tally.rises parted in
    let other = c.if-count-ne0.true in
    let some : 0 < c.args.count = grind arith in
    let room : vec_len c.args.items.now < vec_capacity c.args.items.now
    = omega (arith, c.requires.room some (ap (λ found. unwrap_or found 0) none), c.args.items.now.ok.0) in
    let came : c.insert.new.self.items ≡ insert items c.in-Err.place (c.args.number, c.args.count)
    = search (rules, c.insert.ensures.items, c.insert.ensures.succeeds room) in
    let as_entry = inserted-at c.args.number c.in-Err.place c.args.count items within
    (lower-before c.args.number items c.requires.tally.rises c.in-Err.place parted)
    (higher-from c.args.number items c.requires.tally.rises c.in-Err.place parted) in
    rw (came ∙ as_entry) (sound_inserted c.args.number c.args.count items some c.requires.tally)

pub returns-then-count-ne0-clause-capacity : goal.returns-then-count-ne0-clause-capacity
returns-then-count-ne0-clause-capacity c =
    let items = c.args.items.now.items in
    let within : c.in-Err.place ≤ length items
    = subst (λ items. c.in-Err.place ≤ length items) c.as_slice.ensures.value c.in-Err.ensures.bound in
    let parted : IsBinarySearchResult (λ entry. nat_cmp entry.0 c.args.number) items (Err c.in-Err.place)
    = subst (λ items. IsBinarySearchResult (λ entry. nat_cmp entry.0 c.args.number) items (Err c.in-Err.place)) c.as_slice.ensures.value
    c.in-Err.ensures.position in
    let none = none-at c.args.number c.in-Err.place items c.requires.tally.rises parted in
    let other = c.if-count-ne0.true in
    let some : 0 < c.args.count = grind arith in
    let room : vec_len c.args.items.now < vec_capacity c.args.items.now
    = omega (arith, c.requires.room some (ap (λ found. unwrap_or found 0) none), c.args.items.now.ok.0) in
    (c.insert.ensures.in_place room).1.0

pub returns-else-count-ne0-clause-counts : goal.returns-else-count-ne0-clause-counts
returns-else-count-ne0-clause-counts c =
    let items = c.args.items.now.items in
    let within : c.in-Err.place ≤ length items
    = subst (λ items. c.in-Err.place ≤ length items) c.as_slice.ensures.value c.in-Err.ensures.bound in
    let parted : IsBinarySearchResult (λ entry. nat_cmp entry.0 c.args.number) items (Err c.in-Err.place)
    = subst (λ items. IsBinarySearchResult (λ entry. nat_cmp entry.0 c.args.number) items (Err c.in-Err.place)) c.as_slice.ensures.value
    c.in-Err.ensures.position in
    let none = none-at c.args.number c.in-Err.place items c.requires.tally.rises parted in
    let zero = c.if-count-ne0.false in
    sym (with_none c.args.number c.args.count items (grind arith) ∙ absent_stays (is_at (nat_cmp c.args.number)) items none)
