-- What is found is found of lanes as they were made.
use Rattle.std.proofs.Common.{ℕ, Bool, ◌≡◌, ◌<◌, ◌^◌, true, false, List, [], ◌∷◌, ◌++◌, get_or, slice_get, refl, sym, ◌∙◌, ap, subst}
use Rattle.std.proofs.Common.{Some, arith}
use Rattle.std.specs.List.{All}
use Rattle.std.proofs.lemmas.Option.{slice_get-get_or}
use Rattle.iox_lanes_machine.specs.LanesBase.Publishing.{publisher_is_idle}
use Rattle.iox_lanes_machine.specs.LanesBase.Subscribing.{subscriber_is_idle}
use Rattle.iox_lanes_machine.specs.LanesParties.Parties.{PublisherLaneState, SubscriberLaneState}
use Rattle.iox_lanes_machine.specs.Findings.{finds, with_found, FindsTo, AreFound}
use Rattle.iox_lanes_machine.specs.Fresh.{IsFresh}
use Rattle.iox_lanes_machine.specs.Kept.{IsKept}
use Rattle.iox_lanes_machine.specs.Made.{start}
use Rattle.iox_lanes_machine.specs.Resting.{AllBetween}
use Rattle.iox_lanes_machine.specs.WholeReads.{CameTo}
use Rattle.iox_lanes_machine.specs.World.{World}
use Rattle.iox_lanes_machine.specs.declared.found.Found.{Found}
use Rattle.iox_lanes_machine.specs.declared.sizes.LaneSizes.{LaneSizes}
use Rattle.iox_lanes_machine.proofs.FoundKeptWhole.{all_found, found_moments}
use Rattle.iox_lanes_machine.proofs.StartUses.{start_kept}
use Rattle.iox_lanes.specs.Finding.{NoneCameBack, NothingCameBack, WasFound, is_given_back}

-- lanes that were just made
pub was_made : (sizes : LaneSizes) (m : World) → 0 < sizes.buffer → sizes.buffer < 2 ^ 61 → sizes.most_borrowed < 2 ^ 61
    → sizes.subscribers < 2 ^ 61 → m ≡ start sizes → NothingCameBack sizes m
was_made sizes m some buffer borrowed ports is
    = record { was = record { some = some; ports = ports; small = omega (arith, buffer, borrowed); found = []; finds = is }; none = tt }

-- one more after a list of findings
one_more : (s : World) (fs : List Found) (m : World) (f : Found) → AreFound s fs m → finds m f ≡ true
    → AreFound s (fs ++ f ∷ []) (with_found m f)
one_more s [] m f h fit = subst (λ (x : World). (finds x f ≡ true) × (with_found m f ≡ with_found x f)) h (fit, refl)
one_more s (g ∷ fs) m f h fit = (h.0, one_more (with_found s g) fs m f h.1 fit)

-- no more came back, where this is no sample that did
none_more : (fs : List Found) (f : Found) → NoneCameBack fs → is_given_back f ≡ false → NoneCameBack (fs ++ f ∷ [])
none_more [] f none new = (new, tt)
none_more (g ∷ fs) f none new = (none.0, none_more fs f none.1 new)

pub found_on : (sizes : LaneSizes) (m : World) (f : Found) (answer : Bool) (n : World) → is_given_back f ≡ false → FindsTo m f answer n
    → NothingCameBack sizes m → NothingCameBack sizes n
found_on sizes m f true n new h b = subst (NothingCameBack sizes) (sym h.1) (record {
  was = record {
    some = b.was.some;
    ports = b.was.ports;
    small = b.was.small;
    found = b.was.found ++ f ∷ [];
    finds = one_more (start sizes) b.was.found m f b.was.finds h.0;
  };
  none = none_more b.was.found f b.none new;
})
found_on sizes m f false n new h b = subst (NothingCameBack sizes) (sym h.1) b

-- they came from where they were made
pub came : (sizes : LaneSizes) (m : World) → NothingCameBack sizes m → CameTo m
came sizes m b = record {
  sizes = sizes;
  some = b.was.some;
  ports = b.was.ports;
  small = b.was.small;
  found = b.was.found;
  begun = m;
  finds = b.was.finds;
  schedule = [];
  made
      = 0;
  runs = (refl, refl);
}

pub no_moments : (s : World) (fs : List Found) (m : World) → AreFound s fs m → m.moments ≡ s.moments
no_moments s [] m h = ap (λ (x : World). x.moments) h
no_moments s (f ∷ fs) m h = no_moments (with_found s f) fs m h.1 ∙ found_moments s f

all_from : {X : Type 0} (P : X → Type 0) (xs : List X) → ((at : ℕ) (x : X) → slice_get xs at ≡ Some x → P x) → All P xs
all_from P xs f = λ k d below. f k (get_or xs k d) (slice_get-get_or xs k d below)

-- and nobody is inside a call
pub between : (sizes : LaneSizes) (m : World) → WasFound sizes m → AllBetween m
between sizes m w =
    let kept : IsKept m = all_found (start sizes) w.found m w.finds (start_kept sizes w.some w.ports w.small) in
    let fresh : IsFresh m = kept.fresh (no_moments (start sizes) w.found m w.finds) in
    record {
      publishers = all_from (λ (lane : PublisherLaneState). publisher_is_idle lane.port.call ≡ true) m.publishers
          (λ at lane there. ap publisher_is_idle (fresh.publishers at lane there).idle);
      subscribers = all_from (λ (lane : SubscriberLaneState). subscriber_is_idle lane.port.call ≡ true) m.subscribers
          (λ at lane there. ap subscriber_is_idle (fresh.subscribers at lane there).idle);
    }
