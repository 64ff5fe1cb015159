-- A new writer has written nothing, so what it holds then is just the text of the row.
use Rattle.std.proofs.Common.{◌≢◌, ◌∙◌}
use Rattle.csv.specs.declared.writer.QuoteStyle.TheVariants as style
use Rattle.example_tracer.proofs.record.row_text.Goals as goal

pub returns-in-Ok : goal.returns-in-Ok
returns-in-Ok c =
    let fresh = c.from_writer-writer.ensures in
    let quotes : c.from_writer-writer.result.cfg.style ≢ style.NonNumeric = rw (fresh.cfg, c.new.ensures) (λ e. cc e) in
    let wrote = c.in_ok-write_fields.ensures.bytes fresh.fields fresh.wrote quotes in
    c.in-Ok.ensures.ok ∙ rw (fresh.cfg, c.new.ensures, fresh.wtr, c.new-2.ensures.items, fresh.empty) at wrote
