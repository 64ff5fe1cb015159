use Rattle.std.proofs.Common.{◌≡◌, ◌<◌, ◌≤◌, ◌∷◌, ◌++◌, [], Some, arith, refl, sym, ap, ◌∙◌, length}
use Rattle.std.specs.List.{slice_get}
use Rattle.std.proofs.lemmas.List.{length-set, length_push}
use Rattle.std.proofs.lemmas.Option.{slice_get_read}
use Rattle.iox_container.specs.Owners.{With}
use Rattle.iox_container.proofs.Had.{left-unlisted, next-unlisted, lists-changed, lists-pushed, set-there, set-elsewhere, push-there}
use Rattle.iox_container.proofs.Had.{push-elsewhere}
use Rattle.iox_container.proofs.owners.Owners.set.Goals as goal
use Rattle.iox_container.proofs.owners.Owners.set.Goals.{then-place-len+else-before-owner, else-place-len}

pub insert-requires-clause-new : goal.insert-requires-clause-new
insert-requires-clause-new c =
    elim c.if-place-len.branch [
      | then-place-len+else-before-owner w ↦
          let within : c.args.place < length c.self.inside.last.items
          = omega (arith, w.if-place-len.true, c.len.ensures, c.self.inside.last.ok.0) in
          let was : slice_get c.self.inside.last.items c.args.place ≡ Some w.index-before.result.now =
          slice_get_read c.self.inside.last.items (length c.self.inside.last.items) c.args.place w.index-before.result.now refl within
          w.index-before.ensures in
          rw w.self-inside-is
          (left-unlisted c.self.inside.last.items c.self.inside.entries.items c.self.invariant.0 c.args.place w.index-before.result.now
          c.value-owner.result was
          (λ same. w.if-before-owner.false (sym same)) w.remove.new.entries.items w.remove.ensures.without)
      | else-place-len w ↦
          let next : c.args.place ≤ length c.self.inside.last.items = rw (← c.self.view_is) at c.requires.next in
          let at : c.args.place ≡ length c.self.inside.last.items
          = omega (arith, w.if-place-len.false, c.len.ensures, c.self.inside.last.ok.0) in
          rw (w.self-inside-is, at) (next-unlisted c.self.inside.last.items c.self.inside.entries.items c.self.invariant.0
          c.value-owner.result)
    ]

pub invariant_of-self : goal.invariant_of-self
invariant_of-self c =
    elim c.if-place-len.branch [
      | then-place-len+else-before-owner w ↦
          let within : c.args.place < length c.self.inside.last.items
          = omega (arith, w.if-place-len.true, c.len.ensures, c.self.inside.last.ok.0) in
          let was : slice_get c.self.inside.last.items c.args.place ≡ Some w.index-before.result.now =
          slice_get_read c.self.inside.last.items (length c.self.inside.last.items) c.args.place w.index-before.result.now refl within
          w.index-before.ensures in
          let came : With (c.value-owner.result, c.args.place) w.remove.new.entries.items c.insert.new.entries.items
          = rw w.self-inside-is at c.insert.ensures.with in
          let room = rw w.self-inside-is at c.insert.ensures.capacity in
          rw w.self-inside-is (
            lists-changed c.self.inside.last.items c.self.inside.entries.items c.self.invariant.0 c.args.place w.index-before.result.now
                c.value-owner.result was
                (λ same. w.if-before-owner.false (sym same)) w.remove.new.entries.items w.remove.ensures.without
                c.insert.new.entries.items came,
            omega (arith, length-set c.self.inside.last.items c.args.place c.value-owner.result, c.self.invariant.1),
            c.self.invariant.2,
            omega (arith, room, w.remove.ensures.capacity, c.self.invariant.3),
          )
      | else-place-len w ↦
          let next : c.args.place ≤ length c.self.inside.last.items = rw (← c.self.view_is) at c.requires.next in
          let within : c.args.place < c.self.inside.room = rw (← c.self.view_is) at c.requires.within in
          let at : c.args.place ≡ length c.self.inside.last.items
          = omega (arith, w.if-place-len.false, c.len.ensures, c.self.inside.last.ok.0) in
          let came : With (c.value-owner.result, length c.self.inside.last.items) c.self.inside.entries.items c.insert.new.entries.items
          = rw (w.self-inside-is, at) at c.insert.ensures.with in
          let room = rw w.self-inside-is at c.insert.ensures.capacity in
          rw (w.self-inside-is, w.push_reserved.ensures.items) (
            lists-pushed c.self.inside.last.items c.self.inside.entries.items c.self.invariant.0 c.insert.new.entries.items
                c.value-owner.result came,
            omega (arith, length_push c.self.inside.last.items c.value-owner.result),
            omega (arith, w.push_reserved.ensures.capacity, c.self.invariant.2),
            omega (arith, room, c.self.invariant.3),
          )
    ]

pub returns : goal.returns
returns c =
    elim c.if-place-len.branch [
      | then-place-len+else-before-owner w ↦
          let within : c.args.place < length c.self.inside.last.items
          = omega (arith, w.if-place-len.true, c.len.ensures, c.self.inside.last.ok.0) in
          rw (← c.self.view_is, w.self-inside-is) record {
            here = set-there c.self.inside.last.items c.args.place c.value-owner.result within ∙ ap Some c.value-owner.ensures.value;
            others = λ other apart. set-elsewhere c.self.inside.last.items c.args.place other c.value-owner.result apart;
            room = refl;
          }
      | else-place-len w ↦
          let next : c.args.place ≤ length c.self.inside.last.items = rw (← c.self.view_is) at c.requires.next in
          let at : c.args.place ≡ length c.self.inside.last.items
          = omega (arith, w.if-place-len.false, c.len.ensures, c.self.inside.last.ok.0) in
          rw (← c.self.view_is, w.self-inside-is, w.push_reserved.ensures.items) record {
            here = ap (λ k. slice_get (c.self.inside.last.items ++ c.value-owner.result ∷ []) k) at ∙ push-there
                c.self.inside.last.items c.value-owner.result ∙ ap Some c.value-owner.ensures.value;
            others = λ other apart. push-elsewhere c.self.inside.last.items other c.value-owner.result (λ same. apart (same ∙ sym at));
            room = refl;
          }
    ]
