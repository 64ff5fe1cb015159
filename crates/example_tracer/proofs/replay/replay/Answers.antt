use Rattle.std.proofs.Common.{Bool, Bor, List, ℕ, ◌∙◌, sym, refl, inl, inr, ap, Some, ◌∷◌, ◌++◌, []}
use Rattle.csv.specs.Reading.{Reached, default_config, strip_bom}
use Rattle.csv.specs.Records.{fields_of}
use Rattle.csv.specs.declared.parser.State.TheVariants as st
use Rattle.csv.proofs.ReadFacts.{rows-end, rows-more}
use Rattle.example_tracer.specs.Replay.{added}
use Rattle.example_tracer.proofs.ReplayLemmas.{none_yet, one_more, no_longer}
use Rattle.example_tracer.proofs.replay.replay.Goals as goal

-- a new reader stands at the start of the text
pub loop-row-init : goal.loop-row-init
unfolding Reached
loop-row-init c =
    let reader = c.from_reader-reader.ensures in
    let named = c.has_headers.ensures in
    rw (c.into_iter-row-iterator.ensures.into_iter_gives ∙ refl, c.into_byte_records-row-items.ensures.rdr) (record {
      untrimmed = rw named at reader.trim ∙ c.new.ensures.trim;
      ready = inr (inr (rw named at reader.has_headers, reader.headers));
      turns = c.into_byte_records-row-items.ensures.left;
      config = rw named at reader.config ∙ c.new.ensures.config;
      rest = strip_bom c.args.text.now;
      rest_is = reader.source;
      rows = [];
      reached = (sym reader.state, refl);
      header = refl;
      script = c.new-script.ensures.items;
    })

-- the next row adds its line
pub loop-row-preserved : goal.loop-row-preserved
loop-row-preserved c =
    let before = c.loop-row.invariant in
    let read = rw (c.in-Some.is, c.in_ok-row.was) at ((c.next.ensures.steps before.turns before.untrimmed).0 before.ready) in
    let row = fields_of c.in_ok-row.row in
    let further = rows-more (λ (s : Bor (List ℕ)). Some s.now) c.loop-row.row-iterator.rdr c.next.new.self.rdr row default_config
    st.StartRecord (strip_bom c.args.text.now) before.rest before.rows before.config before.rest_is before.reached read.0 in
    record {
      untrimmed = read.0.3 ∙ before.untrimmed;
      ready = inl read.1;
      turns = read.2;
      config = read.0.2 ∙ before.config;
      rest = further.0;
      rest_is = further.1;
      rows = before.rows ++ row ∷ [];
      reached = further.2;
      header = sym (no_longer before.rows row);
      script = c.in-Ok.ensures ∙ ap (λ (header : Bool). c.loop-row.script.items ++ added header row) before.header ∙ ap
          (λ (script : List ℕ). script ++ added (none_yet before.rows) row) before.script ∙ sym (one_more before.rows row);
    }

-- no row is left
pub returns : goal.returns
returns c =
    let before = c.loop-row.invariant in
    let read = rw c.in-None.is at ((c.next.ensures.steps before.turns before.untrimmed).0 before.ready) in (
      before.rows,
      (
        c.loop-row.row-iterator.rdr.state,
        before.rest,
        before.reached,
        rows-end (λ (s : Bor (List ℕ)). Some s.now)
            c.loop-row.row-iterator.rdr c.next.new.self.rdr [] default_config before.rest before.config before.rest_is read,
      ),
      before.script,
    )
