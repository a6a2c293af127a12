-- An update of 16,777,215 bytes whose diff in form 2 is written, and too long to be read.
use Prim.Native.Nat.{ℕ, ◌+◌, ◌-◌, ◌≤◌, ◌<◌}
use mathlib.Core.Path.{◌≡◌, refl, sym, ap, subst, ◌∙◌}
use mathlib.Core.Bool.{true, false}
use mathlib.Core.List.{List, [], ◌∷◌, ◌++◌}
use native.Mathlib.Omega.{arith}
use lib.ListN.{length, drop, length-append}
use lib.Seq.{drop_at, length-slice}
use borrow.Author.Tests.{le-ltb, lt-leb}
use Rattle.numbers.specs.Number as spelling
use Rattle.numbers.specs.Words as words
use Rattle.numbers.specs.declared.Read.TheVariants as read
use Rattle.numbers.specs.Number.{spelt, answer_at, read_unsigned, spell, unsigned}
use Rattle.numbers.specs.Limits.{max_update}
use Rattle.block.specs.declared.Block.{Block}
use Rattle.ranges.specs.Ranges.{Range}
use Rattle.grammar.specs.Grammar as grammar
use Rattle.grammar.specs.Course as course
use Rattle.grammar.specs.Course.{Course, got, thing, over, fit}
use Rattle.grammar.specs.Blocks as blocks
use Rattle.grammar.specs.Deletes as deletes
use Rattle.decoder.specs.Line as line
use Rattle.decoder.specs.Line.{byte_at, bytes_at, so_many}
use Rattle.decoder.specs.Update.{blocks_of, delete_set}
use Rattle.ranges.specs.Ranges as ranges
use Rattle.updates.specs.Promises as promises
use Rattle.updates.specs.Promises.{Reading, with_ranges, with_blocks, reading}
use Rattle.agreement.proofs.Readings.{read-on}
use Rattle.rereading.specs.Vectors.{Reads, entries_in}
use Rattle.rereading.specs.Again.{kept_by}
use Rattle.rereading.specs.Doable.{Doable}
use Rattle.rereading.proofs.Doable.{diff-made, diff-done}
use Rattle.rereading.proofs.Wholes.{in-time}
use Rattle.block.specs.Kinds as kinds
use Rattle.vector.specs.Vector as vector
use Rattle.vector.specs.Vector.{vector_of}
use Rattle.readings.specs.Sound.{bytes_in, linked}
use Rattle.readings.specs.Groups as groups
use Rattle.tokens.specs.Tokens.{Token, var, client, info, left, buf}
use Rattle.runs.specs.Runs as runs
use Rattle.runs.specs.RunsInner as runs-inner
use Rattle.runs.specs.Number as number-run
use Rattle.runs.specs.Difference as difference-run
use Rattle.runs.specs.Byte as byte-run
use Rattle.tokens.specs.Tokens as tokens
use Rattle.tokens.specs.Keys as keys
use Rattle.tokens.specs.Keys.{many_keys}
use Rattle.tokens.specs.Bytes as bytes
use Rattle.tokens.specs.Bytes.{bytes_of, near}
use Rattle.kept.specs.Kept as kept
use Rattle.kept.specs.Cut as cut
use Rattle.kept.specs.Cut.{any_torn}
use Rattle.records.specs.Records as records
use Rattle.writing.specs.Diff.{diff_tokens, diff_bytes, turned_format}
use Rattle.diffs.specs.Promises.{Diffed, diff_of}
use Rattle.sorting.specs.Steps as steps
use Rattle.sorting.specs.Rules as rules
use Rattle.sorting.specs.Rule28 as rule28
use Rattle.sorting.specs.Rule13 as rule13
use Rattle.sorting.specs.Named.{asks_of, rule_of}
use Rattle.sorting.specs.Quick as quick
use Rattle.sorting.specs.Sorted as outcomes
use Rattle.sort_answers.specs.Answers as answers
use Rattle.sort_answers.specs.Answers.{is_rule}
use Rattle.sorts.specs.Promises as sort-promises
use Rattle.sorts.specs.Promises.{quickly, sort_by, after_reading}
use Rattle.later.specs.Examples.{early, only, takes}
use Rattle.later.specs.TooLong.{most, longest, binary, NotRead}
use Rattle.later.proofs.Readable.{too_long}

-- ---- a delete set of no clients

zero-read : (u : List ℕ) (at : ℕ) → drop at u ≡ 0 ∷ [] → read_unsigned u at ≡ read.Number 0 (at + 1)
unfolding read_unsigned spelt answer_at
zero-read u at e = ap (λ (l : List ℕ). answer_at u at (spelt 9 at l)) e

no-ranges : (u : List ℕ) (at : ℕ) → read_unsigned u at ≡ read.Number 0 (at + 1) → delete_set 1 u at ≡ over tt (at + 1)
unfolding delete_set course.run course.on_drawn grammar.◌>>=◌ deletes.all_ranges deletes.deleted_clients line.line line.number_by line.up_to line.bounded line.var_at line.number_at
no-ranges u at e = rw e refl

-- ---- the update

-- all but the last byte
unfoldable front : List ℕ → List ℕ
front t = 0x01 ∷ 0x01 ∷ 0x05 ∷ 0x01 ∷ 0x83 ∷ 0x05 ∷ 0x00 ∷ 0xf3 ∷ 0xff ∷ 0xff ∷ 0x07 ∷ t

in_two : (t : List ℕ) → longest t ≡ front t ++ (0x00 ∷ [])
unfolding longest front
in_two t = refl

front_length : (t : List ℕ) → length t ≡ most → length (front t) ≡ 16777214
unfolding front
front_length t size = omega arith

module _ (t : List ℕ) (size : length t ≡ most) where
  long : length (longest t) ≡ max_update
  unfolding longest
  long = omega (arith, length-append t (0 ∷ []))

  length-read : read_unsigned (longest t) 7 ≡ read.Number most 11
  unfolding read_unsigned spelt answer_at spelling.low_part longest
  length-read = refl

  stored : bytes_at (longest t) 7 ≡ got (record { place = 11; bytes = record { 0 = most } }) 16777214
  unfolding bytes_at so_many
  stored = ap (so_many (longest t)) length-read ∙ rw (le-ltb (length (longest t) - 11) most (omega (arith, long))) refl

  last : drop 16777214 (longest t) ≡ 0 ∷ []
  last = ap (drop 16777214) (in_two t) ∙ drop_at (front t) (0 ∷ []) 16777214 (front_length t size)

  ranges-read : delete_set 1 (longest t) 16777214 ≡ over tt 16777215
  ranges-read = no-ranges (longest t) 16777214 (zero-read (longest t) 16777214 last)

  info-read : byte_at (longest t) 4 ≡ got (0x83, 4) 5
  unfolding byte_at longest
  info-read = rw (lt-leb (length (longest t)) 4 (omega (arith, long))) refl

  blocks-read : blocks_of 1 (longest t) ≡ thing binary 4 (over tt 16777214)
  unfolding blocks_of words.among course.run course.on_drawn grammar.◌>>=◌ blocks.an_id blocks.left blocks.right blocks.place blocks.binary blocks.content blocks.content_of blocks.an_item blocks.bare blocks.body blocks.block blocks.dropped blocks.unless_dropped blocks.blocks blocks.sections blocks.all_blocks line.line line.number_by line.up_to line.bounded line.var_at line.number_at read_unsigned spelt answer_at spelling.low_part longest
  blocks-read = rw (info-read, stored) refl

  is_read : reading 1 (longest t) 1 0 ≡ only binary
  unfolding promises.known promises.with_blocks promises.with_ranges course.fit course.things course.ending ranges.normal
  is_read =
      read-on 1 (longest t) 1 0 (in-time 1 (longest t) refl (omega (arith, long)))
      ∙ ap (λ (c : Course Block). with_blocks 1 (longest t) 0 (fit 1 c)) blocks-read
      ∙ ap (λ (c : Course Range). with_ranges (binary ∷ []) (fit 0 c)) ranges-read

-- ---- it is taken

abbrev Taken : ℕ → Type 0
Taken rule =
    after_reading quickly (rule_of rule) (record { order = 1; counts = 2; reaches = 4; pending = 3 }) (vector_of early) (only binary) ≡ takes (5 ∷ 2 ∷ []) binary

taken : Taken 28 × Taken 13
unfolding words.among answers.why_not sort-promises.sorted_all sort-promises.why_sort sort-promises.fitting sort-promises.against sort-promises.after_reading vector.holds vector.entries vector.a_vector vector.vector_of spelling.low_part spelt answer_at read_unsigned kept.remote outcomes.insert outcomes.insert_all outcomes.all_clients outcomes.order outcomes.outcome outcomes.block_numbers_from outcomes.numbers_by outcomes.order_of outcomes.counts_in outcomes.counts_of outcomes.reaches_in outcomes.reaches_of outcomes.pending_in outcomes.pending_of quick.chosen quick.remaining quick.best quick.quick steps.can steps.step steps.after rules.queue rules.deps rules.others rules.system rules.unmet rules.waits rules.report rules.by_reaches rule28.asks28 rule13.asks13 rule13.id_before asks_of line.number_at line.var_at line.bounded line.up_to line.byte_at line.restored line.delete_at line.number_by line.so_many line.bytes_at line.checked line.line grammar.◌>>=◌ course.on_drawn course.run course.things course.ending
taken = (refl, refl)

-- ---- its diff

-- the tokens, with the stored bytes b
unfoldable tokens_with : List ℕ → List Token
tokens_with b = var 1 ∷ var 1 ∷ client 5 ∷ var 1 ∷ info 0x83 ∷ client 5 ∷ left 0 ∷ buf b ∷ var 0 ∷ []

tokens-are : (u : List ℕ) → diff_tokens 2 u (entries_in early) (binary ∷ []) [] ≡ tokens_with (bytes_in u binary.part)
unfolding tokens_with words.among diff_tokens linked groups.join groups.groups kept.remote kept.falls kept.keep_from kept.with_pieces kept.keep_each kept.put_section kept.falling kept.sections_of cut.is_whole cut.part_of cut.cut_row records.content_number records.info_byte records.left_tokens records.right_tokens records.parent_tokens records.key_tokens records.place_tokens records.content_tokens records.block_tokens records.pieces_tokens records.section_start records.section_tokens records.sections_tokens records.clock_from records.length_of records.ranges_tokens records.client_tokens records.delete_tokens records.update_tokens kinds.is_item vector.holds vector.entries vector.a_vector vector.vector_of spelling.low_part spelt answer_at read_unsigned line.number_at line.var_at line.bounded line.up_to line.byte_at line.restored line.delete_at line.number_by line.so_many line.bytes_at line.checked line.line grammar.◌>>=◌ course.on_drawn course.run course.things course.ending
tokens-are u = refl

-- what stands before the stored bytes
abbrev lead : List ℕ
lead = 0 ∷ 0 ∷ 2 ∷ 0x45 ∷ 0 ∷ 1 ∷ 0 ∷ 0 ∷ 1 ∷ 0x83 ∷ 1 ∷ 0 ∷ 0 ∷ 0 ∷ 0 ∷ 1 ∷ 1 ∷ 1 ∷ []

bytes-are : (b : List ℕ) → bytes_of 2 (tokens_with b) ≡ lead ++ ((unsigned (length b) ++ b) ++ (0 ∷ []))
unfolding tokens_with bytes_of bytes.form2 keys.numbered tokens.taken tokens.taken_all tokens.in_line tokens.column_in tokens.lane tokens.inlined runs.runs_on runs.runs_after runs.column runs.coding runs-inner.signed_run number-run.run_bytes difference-run.magnitude difference-run.odd difference-run.run_bytes byte-run.run_bytes unsigned spell spelling.signed
bytes-are b = refl

no_keys : (b : List ℕ) → many_keys 2 (tokens_with b) ≡ false
unfolding tokens_with many_keys keys.crowded
no_keys b = refl

close : (b : List ℕ) → near 2 (tokens_with b) ≡ true
unfolding tokens_with near bytes.near_in tokens.taken tokens.taken_all runs.coding runs.spellable runs.near_key
close b = refl

part_length : (u : List ℕ) (at n : ℕ) → at + n ≤ length u → length (bytes_in u (record { place = at; bytes = record { 0 = n } })) ≡ n
unfolding bytes_in
part_length u at n h = length-slice at (at + n) u h ∙ (omega arith)

four : length (unsigned most) ≡ 4
unfolding unsigned spell
four = refl

bytes-length : (b : List ℕ) → length b ≡ most → length (bytes_of 2 (tokens_with b)) ≡ most + 23
bytes-length b e =
    let led : length (unsigned (length b)) ≡ 4 = ap (λ (n : ℕ). length (unsigned n)) e ∙ four in
    ap length (bytes-are b)
    ∙ (omega (arith, e, led, length-append (unsigned (length b) ++ b) (0 ∷ []), length-append (unsigned (length b)) b))

module _ (t : List ℕ) (size : length t ≡ most) where
  abbrev b : List ℕ
  b = bytes_in (longest t) binary.part

  b-length : length (bytes_in (longest t) binary.part) ≡ most
  b-length = part_length (longest t) 11 most (omega (arith, long t size))

  -- what is said of the tokens of the diff
  diff-tokens : diff_tokens 2 (longest t) (entries_in early) (reading 1 (longest t) 1 0).blocks (reading 1 (longest t) 1 0).ranges
      ≡ tokens_with (bytes_in (longest t) binary.part)
  diff-tokens = ap (λ (r : Reading). diff_tokens 2 (longest t) (entries_in early) r.blocks r.ranges) (is_read t size) ∙ tokens-are (longest t)

  diff-length : length (diff_bytes 2 (longest t) (entries_in early) (reading 1 (longest t) 1 0).blocks (reading 1 (longest t) 1 0).ranges) ≡ most + 23
  unfolding diff_bytes
  diff-length = ap (λ (ts : List Token). length (bytes_of 2 ts)) diff-tokens ∙ bytes-length (bytes_in (longest t) binary.part) b-length

  untorn-both : (any_torn (longest t) (kept_by early (only binary)) ≡ false) × (turned_format 1 2 (kept_by early (only binary)) ≡ false)
  unfolding words.among turned_format cut.format_in cut.any_format groups.join groups.groups kept.remote kept.falls kept.keep_from kept.with_pieces kept.keep_each kept.put_section kept.falling kept.sections_of cut.is_whole cut.torn cut.torn_pieces cut.any_torn vector.holds vector.entries vector.a_vector vector.vector_of spelling.low_part spelt answer_at read_unsigned line.number_at line.var_at line.bounded line.up_to line.number_by line.line grammar.◌>>=◌ course.on_drawn course.run course.things course.ending
  untorn-both = (refl, refl)

  reads-early : Reads early
  unfolding words.among vector.holds vector.entries vector.a_vector vector.vector_of spelling.low_part spelt answer_at read_unsigned line.number_at line.var_at line.bounded line.up_to line.number_by line.line grammar.◌>>=◌ course.on_drawn course.run course.things course.ending
  reads-early = refl

  doable : (room : ℕ) → most + 23 ≤ room → Doable 1 (longest t) early 2 1 0 room
  unfolding promises.known
  doable room h = record {
    target = refl;
    read = ap (λ (r : Reading). r.refusal.number) (is_read t size);
    vector = reads-early;
    keys = ap (many_keys 2) diff-tokens ∙ no_keys (bytes_in (longest t) binary.part);
    untorn = ap (λ (r : Reading). any_torn (longest t) (kept_by early r)) (is_read t size) ∙ untorn-both.0;
    formats = ap (λ (r : Reading). turned_format 1 2 (kept_by early r)) (is_read t size) ∙ untorn-both.1;
    close = ap (near 2) diff-tokens ∙ close (bytes_in (longest t) binary.part);
    fits = omega (arith, diff-length);
  }

  -- longer than what is taken
  too_much : (room : ℕ) → most + 23 ≤ room → max_update < length (diff_of 1 (longest t) early 2 1 0 room).bytes
  too_much room h =
      subst (λ (d : Diffed). max_update < length d.bytes) (sym (diff-made 1 (longest t) early 2 1 0 room (doable room h))) (omega (arith, diff-length))

  not-read : (rule : ℕ) → is_rule rule ≡ true → Taken rule → NotRead rule t
  unfolding sort_by promises.known
  not-read rule is takes-it = record {
    sorted = rw is (ap (after_reading quickly (rule_of rule) (record { order = 1; counts = 2; reaches = 4; pending = 3 }) (vector_of early)) (is_read t size) ∙ takes-it);
    written = λ room h. diff-done 1 (longest t) early 2 1 0 room (doable room h);
    refused = λ room m n w h. too_long rule 2 (diff_of 1 (longest t) early 2 1 0 room).bytes early m n w is refl (too_much room h);
  }

pub not-read-28 : (t : List ℕ) → length t ≡ most → NotRead 28 t
unfolding is_rule
not-read-28 t size = not-read t size 28 refl taken.0

pub not-read-13 : (t : List ℕ) → length t ≡ most → NotRead 13 t
unfolding is_rule
not-read-13 t size = not-read t size 13 refl taken.1
