-- After any whole calls the segment of each published service has room for the agreed number of nodes.
use Rattle.std.proofs.Common.{◌≡◌, ◌++◌, ℕ, List, [], ◌∷◌, sym, subst}
use Rattle.iox_negotiate_table.specs.NegotiateBase.Access.{Access}
use Rattle.iox_negotiate_table.specs.NegotiateBase.Runs.{Went}
use Rattle.iox_negotiate_table.specs.NegotiateBase.Opening.{OpenRound, EitherRound}
use Rattle.iox_negotiate_table.specs.Contents.{Contents, empty_table}
use Rattle.iox_negotiate_table.specs.Stepped.{Steps, SteppedSight}
use Rattle.iox_negotiate.specs.Factories.{Factory}
use Rattle.iox_negotiate.specs.Calls.{Call, Creates, Opening, Either, Closing, Between, Tells, open_after, Goes, Called}
use Rattle.iox_negotiate.specs.Rooms.{IsWithin, AreWithin, RoomsAreAgreed, RoomsInsideCalls}
use Rattle.iox_negotiate.proofs.Rooming.{Roomy, roomy-step, new-roomy}
use Rattle.iox_negotiate.proofs.Careful.{careful-roomy, careful-front, creates-careful, rounds-careful, round-careful, either-careful}
use Rattle.iox_negotiate.proofs.Careful.{closes-careful}

module _ {V : ℕ → Type 0} where
  call-roomy : (call : Call V) (old new : Contents) → IsWithin call → Roomy old → Goes call old new → Roomy new
  call-roomy (Creates node agreed refusal result) old new within roomy (lists, end, does, is) =
      subst (λ t. Roomy t) (sym is) (careful-roomy does.made (record { table = old; lists = lists }) end
      (creates-careful node agreed refusal does.made result within does.told) roomy does.went)
  call-roomy (Opening kind hash node verdict result) old new within roomy (lists, end, does, is) =
      subst (λ t. Roomy t) (sym is) (careful-roomy does.made (record { table = old; lists = lists }) end
      (rounds-careful (OpenRound hash node verdict) (round-careful hash node verdict) _ does.made result does.told) roomy does.went)
  call-roomy (Either kind node verdict agreed refusal result) old new within roomy (lists, end, does, is) =
      subst (λ t. Roomy t) (sym is) (careful-roomy does.made (record { table = old; lists = lists }) end
      (rounds-careful (EitherRound agreed.service_hash node verdict agreed refusal) (either-careful node verdict agreed refusal within)
      _ does.made result does.told) roomy does.went)
  call-roomy (Closing before factory after result) old new within roomy (lists, end, does, is) =
      subst (λ t. Roomy t) (sym is) (careful-roomy does.made (record { table = old; lists = lists }) end
      (closes-careful factory.agreed.service_hash factory.number factory.node does.made result does.told) roomy does.went)
  call-roomy (Between hash step) old new within roomy (result, acts) = roomy-step hash step result old new roomy acts

  called-roomy : (calls : List (Call V)) (table new : Contents) (held after : List Factory) → AreWithin calls → Roomy table
      → Called table held calls new after → Roomy new
  called-roomy [] table new held after within roomy h = subst (λ t. Roomy t) (sym h.0) roomy
  called-roomy (call ∷ calls) table new held after within roomy (may, mid, goes, rest) =
      called-roomy calls mid new (open_after call held) after within.1 (call-roomy call table mid within.0 roomy goes) rest

call-front-roomy : {V : ℕ → Type 0} (call : Call V) (done rest : List Access) (old mid : Steps) → IsWithin call → Roomy old.table
    → Tells call (done ++ rest) → Went SteppedSight old done mid → Roomy mid.table
call-front-roomy (Creates node agreed refusal result) done rest old mid within roomy told went
    = careful-front done rest old mid (creates-careful node agreed refusal (done ++ rest) result within told) roomy went
call-front-roomy (Opening kind hash node verdict result) done rest old mid within roomy told went =
    careful-front done rest old mid (rounds-careful (OpenRound hash node verdict) (round-careful hash node verdict) _ (done ++ rest)
    result told) roomy went
call-front-roomy (Either kind node verdict agreed refusal result) done rest old mid within roomy told went =
    careful-front done rest old mid (rounds-careful (EitherRound agreed.service_hash node verdict agreed refusal)
    (either-careful node verdict agreed refusal within) _ (done ++ rest) result told) roomy went
call-front-roomy (Closing before factory after result) done rest old mid within roomy told went =
    careful-front done rest old mid (closes-careful factory.agreed.service_hash factory.number factory.node (done ++ rest) result told)
    roomy went
call-front-roomy (Between hash step) [] rest old mid within roomy told went = subst (λ s. Roomy s.table) (sym went) roomy
call-front-roomy (Between hash step) (access ∷ done) rest old mid within roomy told went = absurd (differ told)
  where
    differ : access ∷ (done ++ rest) ≡ [] → ⊥
    differ e = cc

pub agreed-inside : (V : ℕ → Type 0) → RoomsInsideCalls V
agreed-inside V id calls table held call lists mid done rest hash number bytes agreed nodes within fits-call happened told went
    published spells fits stands =
    (call-front-roomy call done rest (record { table = table; lists = lists }) mid fits-call
    (called-roomy calls (empty_table id) table [] held within (new-roomy id) happened) told went).rooms hash number agreed nodes bytes
    spells published fits stands

pub rooms-are-agreed : (V : ℕ → Type 0) → RoomsAreAgreed V
rooms-are-agreed V id calls table held hash number bytes agreed nodes within happened published spells fits stands =
    (called-roomy calls (empty_table id) table [] held within (new-roomy id) happened).rooms hash number agreed nodes bytes spells
    published fits stands
