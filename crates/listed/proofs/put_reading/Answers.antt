-- `listed::put_reading` meets its contract: the first rows of both tables are the blocks and ranges of the reading, and its number decides between their listing
-- and a refusal's line.
use Rattle.std.proofs.Common.{◌≡◌, ◌+◌, ◌*◌, ◌^◌, ◌≤◌, ◌<◌, ◌∙◌, ℕ, List, length, take, ap, refl}
use borrow.Author.Tests.{eq-eqb, ne_eqb}
use Rattle.block.specs.declared.Block.{Block}
use Rattle.lines.specs.LinesInner.{overlay}
use Rattle.listing_text.specs.Listing.{listing, refused_line}
use Rattle.ranges.specs.TableInner.{rows_from}
use Rattle.updates.specs.declared.Update.{Update}
use Rattle.updates.specs.Promises.{Reading, reading, answer, table_of, range_words}
use Rattle.listed.specs.Listed.{lines_of}
use Rattle.listed.proofs.Laws.{tables-fit, lines-done, lines-refused, enough, put_as}
use Rattle.listed.proofs.put_reading.Goals as goal

-- the listing of what a reading leaves in the tables, and a refusal's line
fits : (R : Reading) (n m : ℕ) {u : Update} {rows : List Block} {words : List ℕ} → (u ≡ answer R) × (rows ≡ table_of n R) × (words ≡ range_words m R)
    → length rows ≡ 512 → length words ≡ 3072 → (u.blocks ≤ length rows) × (3 * u.ranges ≤ length words) × (93 + 71 * u.blocks + 63 * u.ranges < 2 ^ 63)
fits R n m e h k = rw (e.0, e.1, e.2) (tables-fit R n m (rw e.1 at h) (rw e.2 at k))

tabled : (form : ℕ) (R : Reading) (n m : ℕ) {u : Update} {rows : List Block} {words : List ℕ} → (u ≡ answer R) × (rows ≡ table_of n R) × (words ≡ range_words m R)
    → u.refusal.number ≡ 0 → listing form (take u.blocks rows) (rows_from words 0 u.ranges) ≡ lines_of form R
tabled form R n m e z = rw (e.0, e.1, e.2) (lines-done R n m form (eq-eqb _ 0 (rw e.0 at z)))

refused : (form : ℕ) (R : Reading) (n m : ℕ) {u : Update} → u ≡ answer R → (u.refusal.number ≡ 0 → ⊥) → refused_line u.refusal ≡ lines_of form R
refused form R n m e z = rw e (lines-refused R n m form (ne_eqb _ 0 (rw e at z)))

pub put_tables-requires : goal.put_tables-requires
put_tables-requires c =
    fits (reading c.args.form c.args.update.now 512 1024) 512 3072 c.read_update-read.ensures c.read_update-read.auto.rows c.read_update-read.auto.ranges

pub returns-then-why-eq0 : goal.returns-then-why-eq0
returns-then-why-eq0 c = let a = c.args in
    let text = tabled a.form (reading a.form a.update.now 512 1024) 512 3072 c.read_update-read.ensures c.if-why-eq0.true ∙ enough a.form a.update.now 512 3072 refl refl in
    (c.put_tables.ensures.0 ∙ ap length text, c.put_tables.ensures.1 ∙ ap (overlay a.out.now 0) text)

pub returns : goal.returns
returns c = let a = c.args in
    put_as a.out.now (refused a.form (reading a.form a.update.now 512 1024) 512 3072 c.read_update-read.ensures.0 c.if-why-eq0.false ∙ enough a.form a.update.now 512 3072 refl refl) c.put_refused.ensures
