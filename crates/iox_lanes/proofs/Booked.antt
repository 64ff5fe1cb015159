-- What stands in the history of a publisher of lanes after what they find.
use Rattle.std.proofs.Common.{arith, ℕ, zero, suc, ◌≡◌, ◌+◌, ◌<◌, ◌≤◌, ◌==◌, true, List, [], ◌∷◌, ◌++◌, length, map, slice_get}
use Rattle.std.proofs.Common.{None, Some, refl, sym, ap, ◌∙◌, subst, inl, inr, append_assoc, length-append}
use Rattle.std.proofs.lemmas.Bool.Decides.{eqb_tells}
use Rattle.std.proofs.lemmas.Option.{slice_get_within}
use Rattle.iox_domain.specs.DomainPorts.Messages.{Message}
use Rattle.iox_domain.specs.DomainPorts.declared.publisher_port.PublisherPort.{PublisherPort}
use Rattle.iox_lanes_machine.specs.LanesBase.declared.words.sizes.TableSizes.{TableSizes}
use Rattle.iox_lanes_machine.specs.LanesParties.Parties.{PublisherLaneState}
use Rattle.iox_lanes_machine.specs.Findings.{finds, with_found}
use Rattle.iox_lanes_machine.specs.LedgerUses.{count}
use Rattle.iox_lanes_machine.specs.TakenIn.{more_history, new_slots, number_with, slot_if}
use Rattle.iox_lanes_machine.specs.World.{World}
use Rattle.iox_lanes_machine.specs.declared.found.Found.{Found}
use Rattle.iox_lanes_machine.specs.declared.found.Found.TheVariants as found
use Rattle.iox_lanes.specs.Behind.{behind_findings, behind_finding}
use Rattle.iox_lanes.specs.Laid.{history_findings, message_findings, slot_in}
use Rattle.iox_lanes.specs.Spelling.{Spelling}
use Rattle.iox_lanes.proofs.Apart.{AreApart}
use Rattle.iox_lanes.proofs.Behind.{behind_both}
use Rattle.iox_lanes.proofs.Each.{each_leaves, each_word, Each}
use Rattle.iox_lanes.proofs.Moving.{behind_by, behind_fits}
use Rattle.iox_lanes.proofs.Wording.{accepted, steady_on, taken_in, AreSteady}

pub some_at : {X : Type 0} (xs : List X) (at : ℕ) → at < length xs → (x : X) × (slice_get xs at ≡ Some x)
some_at [] at below = absurd (omega (arith, below))
some_at (x ∷ xs) zero below = (x, refl)
some_at (x ∷ xs) (suc at) below = some_at xs at (omega (arith, below))

pub nil_behind : {X : Type 0} (xs : List X) → xs ++ [] ≡ xs
nil_behind [] = refl
nil_behind (x ∷ xs) = ap (λ ys. x ∷ ys) (nil_behind xs)

pub itself : (n : ℕ) → (n == n) ≡ true
itself n = elim (eqb_tells n n) [
  | inl same ↦ same.0
  | inr apart ↦ absurd (apart.1 refl)
]

-- a finding gives this publisher no slots, and adds nothing to its history
abbrev pub LeavesBook : ℕ → Found → Type 0
LeavesBook who f = (new_slots f who ≡ None) × (more_history f who ≡ [])

module _ (table : TableSizes) (who first size kept : ℕ) where
  -- a publisher of lanes with n slots from this one on, and with these in its history, which may have m
  pub record IsBooked (history : List ℕ) (m : World) : Type 0 where
    pub steady : AreSteady table m
    pub lane : PublisherLaneState
    pub there : slice_get m.publishers who ≡ Some lane
    pub from : lane.port.book.first ≡ first
    pub many : length lane.port.book.uses ≡ size
    pub most : lane.port.book.kept ≡ kept
    pub keeps : lane.port.book.history ≡ history

  booked_on : (m : World) (f : Found) (history : List ℕ) → new_slots f who ≡ None → IsBooked history m → finds m f ≡ true
      → IsBooked (history ++ more_history f who) (with_found m f)
  booked_on m f history none booked fits =
      let taken = taken_in m f fits (booked.steady).kept in
      let now = some_at (with_found m f).publishers who
      (omega (arith, taken.as_many, slice_get_within m.publishers who booked.lane booked.there)) in
      let grows = taken.publishers who booked.lane now.0 booked.there now.1 in
      record {
        steady = subst (AreSteady table) (behind_fits m f fits) (steady_on table m f booked.steady);
        lane = now.0;
        there = now.1;
        from = ap (λ (l : PublisherLaneState). l.port.book.first) grows.same ∙ booked.from;
        many = grows.slots ∙ ap (λ given. number_with given (length (booked.lane).port.book.uses)) none ∙ booked.many;
        most = ap (λ (l : PublisherLaneState). l.port.book.kept) grows.same ∙ booked.most;
        keeps = grows.history ∙ ap (λ h. h ++ more_history f who) booked.keeps;
      }

  -- a finding that leaves it
  pub booked_stays : (m : World) (f : Found) (history : List ℕ) → LeavesBook who f → IsBooked history m
      → IsBooked history (behind_finding m f)
  booked_stays m f history leaves booked = behind_by (IsBooked history) m f booked (λ fits.
      subst (λ h. IsBooked h (with_found m f)) (ap (λ more. history ++ more) leaves.1 ∙ nil_behind history)
      (booked_on m f history leaves.0 booked fits))

  -- a slot of it that isn't in its history may be its newest
  booked_newest : (m : World) (slot : ℕ) (history : List ℕ) → first ≤ slot → slot < first + size → count slot history ≡ 0
      → length history < kept → IsBooked history m
      → IsBooked (history ++ slot ∷ []) (behind_finding m (found.Newest who slot))
  booked_newest m slot history above below none room booked =
      let fits = accepted m (found.Newest who slot) (booked.steady).kept (record {
        first = (booked.steady).moments;
        may = record {
          lane = booked.lane;
          publisher = booked.there;
          own = record { above = omega (arith, booked.from, above); below = omega (arith, booked.from, booked.many, below) };
          lacks = ap (count slot) booked.keeps ∙ none;
          room = omega (arith, ap length booked.keeps, booked.most, room);
        };
      }) in
      subst (IsBooked (history ++ slot ∷ [])) (sym (behind_fits m (found.Newest who slot) fits))
      (subst (λ h. IsBooked h (with_found m (found.Newest who slot))) (ap (λ b. history ++ slot_if b slot) (itself who))
      (booked_on m (found.Newest who slot) history refl booked fits))

  module _ {T U : Type 0} (spelling : Spelling T U) (port : PublisherPort T U) where
    words_leave : (message : Message T U)
        → Each (LeavesBook who) (message_findings spelling first port message)
    words_leave message =
        each_word spelling (LeavesBook who) (slot_in first message.slot)
        port.owner.node_id port.number message.elements (message.sequence, message.user_header) message.values (refl, refl) (refl, refl)
        (refl, refl)
        (λ word below. (refl, refl)) (λ word below value there. (refl, refl))

    -- messages whose slots are apart come into its history
    pub booked_history : (messages : List (Message T U)) (seen : List ℕ) (m : World)
        → ((at : ℕ) (message : Message T U) → slice_get messages at ≡ Some message
        → (slot_in first message.slot ≡ first + message.slot) × (message.slot < size))
        → AreApart seen (map (λ message. first + message.slot) messages) → length seen + length messages ≤ kept → IsBooked seen m
        → IsBooked (seen ++ map (λ message. first + message.slot) messages)
        (behind_findings m (history_findings spelling who first port messages))
    unfolding behind_findings
    booked_history [] seen m inside apart room booked = subst (λ h. IsBooked h m) (sym (nil_behind seen)) booked
    booked_history (message ∷ rest) seen m inside apart room booked =
        let words = message_findings spelling first port message in
        let later = history_findings spelling who first port rest in
        let newest = found.Newest who (slot_in first message.slot) in
        let slot : ℕ = first + message.slot in
        let here = inside zero message refl in
        let worded = each_leaves (LeavesBook who) (IsBooked seen) (λ n f leaves is. booked_stays n f seen leaves is) words m
        (words_leave message) booked in
        let kept_here : IsBooked (seen ++ slot ∷ []) (behind_finding (behind_findings m words) newest) =
        subst (λ n. IsBooked (seen ++ slot ∷ []) (behind_finding (behind_findings m words) (found.Newest who n))) (sym here.0)
        (booked_newest (behind_findings m words) slot seen (omega arith) (omega (arith, here.1)) apart.0 (omega (arith, room)) worded) in
        let all = booked_history rest (seen ++ slot ∷ []) (behind_finding (behind_findings m words) newest)
        (λ at own is. inside (suc at) own is) apart.1 (omega (arith, room, length-append seen (slot ∷ []))) kept_here in
        subst (IsBooked (seen ++ slot ∷ map (λ message. first + message.slot) rest))
        (sym (behind_both m (words ++ newest ∷ []) later
        ∙ ap (λ w. behind_findings w later) (behind_both m words (newest ∷ []))))
        (subst (λ h. IsBooked h (behind_findings (behind_finding (behind_findings m words) newest) later))
        (append_assoc seen (slot ∷ []) (map (λ message. first + message.slot) rest)) all)
