-- The exact sizes of lanes: the largest of numbers, one more each time, and lanes that were made of them.
use Rattle.std.proofs.Common.{ℕ, suc, ◌≡◌, ◌+◌, max, List, length, sym, ◌∙◌, ap, ap₂, subst, arith}
use Rattle.iox_domain.specs.declared.ports.service_ports.ServicePorts.{ServicePorts}
use Rattle.iox_lanes_machine.specs.World.{World}
use Rattle.iox_lanes_machine.specs.declared.sizes.LaneSizes.{LaneSizes}
use Rattle.iox_lanes.specs.Exact.{largest, sizes_for}
use Rattle.iox_lanes.specs.Finding.{NothingCameBack}

-- the largest of numbers and of one more
pub next_largest : (f : ℕ → ℕ) (many now most after : ℕ) → most ≡ largest f many → now ≡ f many → after ≡ max now most
    → after ≡ largest f (many + 1)
next_largest f many now most after sofar here is =
    let next : suc many ≡ many + 1 = omega arith in
    is ∙ ap₂ (λ (x y : ℕ). max x y) here sofar ∙ ap (largest f) next

-- lanes that were made of these sizes, which are the exact ones
pub are_exact : {T U : Type 0} (payload_count header_count : ℕ) (ports : ServicePorts T U) (sizes last : LaneSizes)
    (numbers publishers : List ℕ) (count subscribers readers : ℕ) (m : World)
    → (count ≡ length numbers → sizes ≡ sizes_for payload_count header_count ports numbers subscribers) → numbers ≡ publishers
    → count ≡ length publishers → subscribers ≡ readers → NothingCameBack last m → last ≡ sizes
    → NothingCameBack (sizes_for payload_count header_count ports publishers readers) m
are_exact payload_count header_count ports sizes last numbers publishers count subscribers readers m given same as_many readers_are was is =
    subst (λ (s : LaneSizes). NothingCameBack s m)
    (is ∙ given (as_many ∙ ap (λ (xs : List ℕ). length xs) (sym same))
    ∙ ap₂ (λ (xs : List ℕ) (n : ℕ). sizes_for payload_count header_count ports xs n) same readers_are) was
