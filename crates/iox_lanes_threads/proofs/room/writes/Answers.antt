use Rattle.std.proofs.lemmas.List.Elements.{All-push}
use Rattle.std.proofs.Common.{rules, ◌≡◌, ◌++◌, ◌∷◌, [], ap, subst, sym, ◌∙◌}
use Rattle.std.specs.List.{All}
use Rattle.iox_lanes_threads_ports.specs.Values.{HasRoom}
use Rattle.iox_lanes_threads.proofs.room.writes.Goals as goal

pub loop-write-preserved : goal.loop-write-preserved
loop-write-preserved c =
    let items : c.push_reserved.new.self.items ≡ c.loop-write.list.items ++ c.in_ok-room.room ∷ []
    = c.push_reserved.ensures.items ∙ ap (λ items. items ++ c.in_ok-room.room ∷ []) c.in_ok-reserve.ensures.items in (
      search (rules, items, c.loop-write.invariant.0),
      subst (All (HasRoom c.args.sizes.now)) (sym items)
          (All-push (HasRoom c.args.sizes.now) c.loop-write.list.items c.in_ok-room.room c.loop-write.invariant.1 c.in_ok-room.ensures),
    )
