-- Form 2: the columns of written tokens, cut and opened, give the tokens; so these are drawn again.
use Prim.Native.Nat.{ℕ, ◌+◌, ◌^◌, ◌≤◌, ◌<◌}
use mathlib.Core.Path.{◌≡◌, refl, sym, ap, ◌∙◌}
use mathlib.Core.Bool.{Bool, true, false}
use mathlib.Core.List.{List, [], ◌∷◌}
use native.Mathlib.Omega.{arith}
use lib.Dec.{ltb}
use lib.ListN.{length, take}
use Rattle.numbers.specs.Number.{pick}
use Rattle.numbers.specs.Limits.{max_count}
use Rattle.runs.specs.declared.ColumnKind.TheVariants.{Number, Difference, Byte}
use Rattle.runs.specs.Runs.{column_of}
use Rattle.string.specs.String.{text_head, text_column}
use Rattle.string.proofs.TextTrip.{joined, units_each}
use Rattle.grammar.specs.Grammar as grammar
use Rattle.grammar.specs.Grammar.{◌>>=◌}
use Rattle.grammar.specs.Course.{Drawn, got, not, on_drawn, run}
use Rattle.decoder.specs.Line.{up_to, bounded, var_at, number_by, line}
use Rattle.decoder.specs.States.{State, moved_to, text_moved}
use Rattle.decoder.specs.Columned.{onto, number_in, columned}
use Rattle.decoder.specs.Opening.{heads, standing, with_opened, text_opened, on_heads, opened_of}
use Rattle.decoder.specs.Update.{rest_places, in_columns, blocks_of}
use Rattle.leftover.specs.Leftover.{columns_at, columns_left}
use Rattle.tokens.specs.Tokens.{Token, taken_all, in_line, column_in, lane, keys, clients, lefts, rights, infos, parents, types, lens, rest}
use Rattle.tokens.specs.Keys.{crowded, numbered}
use Rattle.tokens.specs.KeysInner.{keys_after}
use Rattle.tokens.specs.Bytes.{form2, near}
use Rattle.draws.specs.Draws.{AllLegal, Lined, DrawnAgain}
use Rattle.draws.proofs.Standing.{From, at-end, past, byte-here}
use Rattle.draws.proofs.Keys.{bytes_each}
use Rattle.draws.proofs.Values.{texts_of, Texted, texted}
use Rattle.draws.proofs.Whys.{Whys, whys}
use Rattle.draws.proofs.Columns.{Holds, columns-spent}
use Rattle.draws.proofs.Keyed.{columns-from}
use Rattle.draws.proofs.Opening.{led_all, Cuts, cut-here, parts_in, end_in, cuts}
use Rattle.draws.proofs.Giving.{numbers-cut, differences-cut, bytes_cut, GivesOpened, texts-cut}

-- ---- the columns of tokens, whose keys are numbers

module _ (ts : List Token) where
  abbrev texts_written : List ℕ
  texts_written = text_column (joined (texts_of ts)) (units_each (texts_of ts))

  -- the nine in their order
  abbrev columns : List (List ℕ)
  columns =
      column_of Difference (taken_all keys ts)
      ∷ (column_of Number (taken_all clients ts) ∷ (column_of Difference (taken_all lefts ts) ∷ (column_of Difference (taken_all rights ts)
      ∷ (column_of Byte (taken_all infos ts) ∷ (texts_written ∷ (column_of Byte (taken_all parents ts)
      ∷ (column_of Number (taken_all types ts) ∷ (column_of Number (taken_all lens ts) ∷ []))))))))

  form2-spelled : Texted ts → form2 ts ≡ 0 ∷ led_all columns (taken_all rest ts)
  unfolding form2 lane in_line column_in text_column text_head led_all
  form2-spelled t = rw (t.bytes, t.units)

module _ (ts : List Token) (t : Texted ts) (w : Whys ts) (u : List ℕ) (l : length u < 2 ^ 62) (x : Cuts u (taken_all rest ts) 1 (columns ts)) where
  abbrev from5 : ℕ
  unfolding Cuts
  from5 = x.1.1.1.1.1.0.from

  texts-opened : GivesOpened (take (from5 + length (texts_written ts)) u) from5 (texts_of ts)
  unfolding Cuts
  texts-opened = texts-cut (texts_of ts) l x.1.1.1.1.1.0 t.formed (rw t.units w.units)

  abbrev opened_state : State
  opened_state =
      text_moved (record { place = texts-opened.place; to = from5 + length (texts_written ts) })
      (standing (parts_in u (taken_all rest ts) (columns ts) 1 x) (end_in u (taken_all rest ts) (columns ts) 1 x))

  opens : From u 0 (0 ∷ led_all (columns ts) (taken_all rest ts)) → opened_of u ≡ got tt opened_state
  unfolding opened_of heads on_heads text_opened with_opened run ◌>>=◌ on_drawn line number_by Cuts parts_in end_in
  opens h = rw (byte-here u 0 0 (led_all (columns ts) (taken_all rest ts)) h, cuts u (taken_all rest ts) (columns ts) 1 x [], texts-opened.opens)

  holds : Holds u opened_state [] ts
  unfolding Cuts parts_in end_in bytes_each
  holds =
      record {
        key = differences-cut (taken_all keys ts) x.0 w.key;
        client = numbers-cut (taken_all clients ts) x.1.0 w.client;
        left = differences-cut (taken_all lefts ts) x.1.1.0 w.left;
        right = differences-cut (taken_all rights ts) x.1.1.1.0 w.right;
        info = bytes_cut (taken_all infos ts) x.1.1.1.1.0 w.info;
        text = texts-opened.gives;
        within = texts-opened.within;
        parent = bytes_cut (taken_all parents ts) x.1.1.1.1.1.1.0 w.parent;
        types = numbers-cut (taken_all types ts) x.1.1.1.1.1.1.1.0 w.type;
        len = numbers-cut (taken_all lens ts) x.1.1.1.1.1.1.1.1.0 w.len;
        rest = x.1.1.1.1.1.1.1.1.1;
        known = refl;
        ends =
            record {
              key = x.0.rest.inside;
              client = x.1.0.rest.inside;
              left = x.1.1.0.rest.inside;
              right = x.1.1.1.0.rest.inside;
              info = x.1.1.1.1.0.rest.inside;
              text = x.1.1.1.1.1.0.rest.inside;
              parent = x.1.1.1.1.1.1.0.rest.inside;
              types = x.1.1.1.1.1.1.1.0.rest.inside;
              len = x.1.1.1.1.1.1.1.1.0.rest.inside;
            };
      }

columns-open : (ts : List Token) → Texted ts → Whys ts → length (form2 ts) < 2 ^ 62 → (s : State) × (opened_of (form2 ts) ≡ got tt s) × Holds (form2 ts) s [] ts
columns-open ts t w l = (opened_state ts t w u l x, opens ts t w u l x flag, holds ts t w u l x)
  where
    u : List ℕ
    u = form2 ts

    flag : From u 0 (0 ∷ led_all (columns ts) (taken_all rest ts))
    flag = record { inside = omega arith; here = form2-spelled ts t }

    x : Cuts u (taken_all rest ts) 1 (columns ts)
    x = cut-here u (taken_all rest ts) l (columns ts) 1 (past u 0 (0 ∷ []) (led_all (columns ts) (taken_all rest ts)) flag)

-- ---- the reader of form 2

-- a field in line, its state's place alone
in_place : Drawn State (ℕ × ℕ) → Drawn ℕ (ℕ × ℕ)
in_place (got a s) = got a s.at
in_place (not why) = not why

lined : (u : List ℕ) → Lined 2 u (columned u) (λ s. s.at)
unfolding columned number_in line number_by up_to bounded onto in_place
lined u = record { bounds = λ n s. bound n s (var_at u s.at); any = λ v p s m e. sym (stands s (var_at u s.at)) ∙ ap in_place e }
  where
    bound : (n : ℕ) (s : State) (d : Drawn ℕ (ℕ × ℕ)) → onto s (bounded n d) ≡ bounded n (onto s d)
    bound n s (got a e) = go (ltb n a.0)
      where
        go : (x : Bool) → onto s (pick x (not (record { number = 3; place = a.1 })) (got a e)) ≡ pick x (not (record { number = 3; place = a.1 })) (got a (moved_to s e))
        go true = refl
        go false = refl
    bound n s (not why) = refl

    stands : (s : State) (d : Drawn ℕ (ℕ × ℕ)) → in_place (onto s d) ≡ d
    stands s (got a e) = refl
    stands s (not why) = refl

-- a number in line leaves the columns as they are
columns-stay : (u : List ℕ) (v p : ℕ) (s m : State) → columned u (grammar.number grammar.any) s ≡ got (v, p) m → columns_at m ≡ columns_at s
unfolding columned number_in line number_by onto columns_at
columns-stay u v p s m e = go (var_at u s.at) e
  where
    state : Drawn State (ℕ × ℕ) → State
    state (got a t) = t
    state (not why) = s

    go : (d : Drawn ℕ (ℕ × ℕ)) → onto s d ≡ got (v, p) m → columns_at m ≡ columns_at s
    go (got a t) e = ap (λ (x : Drawn State (ℕ × ℕ)). columns_at (state x)) (sym e)
    go (not why) e = ap (λ (x : Drawn State (ℕ × ℕ)). columns_at (state x)) (sym e)

pub columns-draw : (ts : List Token) → AllLegal 2 ts → near 2 ts ≡ true → crowded [] ts ≡ false → length ts ≤ max_count
    → length (form2 (numbered [] ts)) < 2 ^ 62 → DrawnAgain 2 (form2 (numbered [] ts)) ts
unfolding blocks_of in_columns on_drawn rest_places columns_left taken_all
columns-draw ts a n c few l =
    let u : List ℕ = form2 (numbered [] ts) in
    let o = columns-open (numbered [] ts) (texted [] ts a) (whys ts a few n) l in
    let r = columns-from u [] ts a c o.0 o.2 in
    record {
      State = State;
      reader = columned u;
      place = λ s. s.at;
      lined = lined u;
      first = o.0;
      last = r.0;
      drawn = r.1;
      leave = rest_places;
      leaves = λ b p c. refl;
      leaves-over = λ s. refl;
      blocks = rw o.1;
      left = columns_at;
      stays = columns-stay u;
      columns = rw o.1;
      spent = columns-spent u r.0 (keys_after [] ts) r.2;
      whole = at-end u r.0.at r.2.rest;
    }
