use Rattle.std.proofs.Common.{rules, arith, ap, ◌≡◌, ◌∙◌, ℕ, ◌*◌, ◌-◌, ◌^◌, ◌≤◌, length, List, take, min}
use Rattle.std.proofs.lemmas.List.{length-take, take_min}
use Rattle.std.proofs.lemmas.List.Elements.{All-take, All-same}
use Rattle.iox_container.specs.StringBytes.{IsStringByte}
use Rattle.iox_describe_base.specs.Detail.{array_name, detail}
use Rattle.iox_describe_base.proofs.zero_copy_send.arrays.ArrayZeroCopySend.type_detail.Goals as goal

pub known-requires-clause-name : goal.known-requires-clause-name
known-requires-clause-name g c =
    let bytes : List ℕ = c.as_bytes-name.result.now in
    let cut : length (take c.min-length.result bytes) ≡ min c.min-length.result (length bytes) = length-take c.min-length.result bytes in
    let some : 1 ≤ length bytes = omega (arith, ap length (c.as_bytes-name.ensures.value ∙ c.array_name-name.ensures)) in
    let long : c.min-length.result ≡ min (length bytes) 255 = search rules in (
      omega (arith, cut, some, long),
      omega (arith, cut, long),
      All-take IsStringByte c.min-length.result bytes
          (All-same IsStringByte _ _ c.as_bytes-name.ensures.value c.as_bytes-name.ensures.valid),
    )

pub returns : goal.returns
returns g c =
    let bytes : List ℕ = c.as_bytes-name.result.now in
    let name_is : bytes ≡ array_name g.T.ZeroCopySend.name g.row.N =
    c.as_bytes-name.ensures.value ∙ c.array_name-name.ensures ∙ ap (λ n. array_name n g.row.N)
    (c.type_name.ensures.value ∙ ap (λ d. d.name) c.type_detail-item.ensures) in
    let long : c.min-length.result ≡ min 255 (length bytes) = search rules in
    let cut : take c.min-length.result bytes ≡ take 255 (array_name g.T.ZeroCopySend.name g.row.N)
    = ap (λ n. take n bytes) long ∙ take_min 255 bytes ∙ ap (take 255) name_is in
    let size_is : c.saturating_mul-size.result ≡ min (g.T.ZeroCopySend.size * g.row.N) (2 ^ 64 - 1) =
    c.saturating_mul-size.ensures ∙ ap (λ n. min (n * g.row.N) (2 ^ 64 - 1))
    (c.size.ensures ∙ ap (λ d. d.size) c.type_detail-item.ensures) in
    let alignment_is : c.alignment.result ≡ g.T.ZeroCopySend.alignment
    = c.alignment.ensures.value ∙ ap (λ d. d.alignment) c.type_detail-item.ensures in
    let name : List ℕ = take 255 (array_name g.T.ZeroCopySend.name g.row.N) in
    c.known.ensures ∙ ap (λ n. detail c.args.variant n c.saturating_mul-size.result c.alignment.result) cut
    ∙ ap (λ n. detail c.args.variant name n c.alignment.result) size_is
    ∙ ap (λ n. detail c.args.variant name (min (g.T.ZeroCopySend.size * g.row.N) (2 ^ 64 - 1)) n) alignment_is
