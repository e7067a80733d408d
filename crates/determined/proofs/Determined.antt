-- Each public call's promise determines its answer and lent words. Tuples are equal part by part: `λ i.` takes the parts' equations together. Assumes nothing.
use Prim.Native.Nat.{ℕ}
use mathlib.Core.List.{List, [], ◌∷◌}
use mathlib.Core.Path.{◌≡◌, ap, sym, ◌∙◌}
use mathlib.Mathlib.Logic.Function.Defs.{Injective}
use lib.ListN.{get_or}
use Rattle.rules.specs.Calls.{Call, Answer}
use Rattle.changes.specs.declared.ChangeRow.{ChangeRow}
use Rattle.changes.specs.Changes.{plain}
use Rattle.changes.proofs.Filling.{plain-same}
use Rattle.determined.specs.Determined.{OneResult, OnePlace, Determined}
use Rattle.determined.proofs.Injective.{fresh-injective, opened-injective, navigated-injective, dropped-injective, traversed-injective, standing-injective, sight-injective, listed-injective, stretch-injective, outlined-injective, saving-injective, loading-injective, told-injective, setting-injective, placed_same, reply-injective, command-injective, replaced-injective}
use Rattle.determined.proofs.Shifts.{shift-alike}

-- No two results of a call have one answer: then its outcome tells the result, with the lent runs.
alike : {A : Type 0} {is : A → Answer} → Injective is → (c : Call) → OneResult is c
alike inj c x y e f = let g = sym e ∙ f in λ i. (inj x.0 y.0 (ap (λ o. o.answer) g) i, (g i).lent)

-- So it is of a place, by the bits of its coordinates.
place-alike : (c : Call) → OnePlace c
place-alike c x y e f = let g = sym e.1 ∙ f.1 in λ i. (placed_same x.0 y.0 e.0 f.0 (ap (λ o. o.answer) g) i, (g i).lent)

-- Lent runs that are the same hold the same change rows.
rows_alike : (words words' : List ℕ) (rows rows' : List ChangeRow) → words ∷ plain rows ∷ [] ≡ words' ∷ plain rows' ∷ [] → rows ≡ rows'
rows_alike words words' rows rows' e = plain-same rows rows' (ap (λ l. get_or l 1 []) e)

-- "Each public call's promise determines answer and lent words for every input [..] Any two outcomes that satisfy a promise are shown equal."
pub determined : Determined
determined =
    record {
      fresh = λ words. alike fresh-injective (Call.Fresh words);
      open-frame = λ words parent. alike opened-injective (Call.Open words parent);
      navigate = λ words from. alike navigated-injective (Call.Navigate words from);
      drop-frame = λ words frame. alike dropped-injective (Call.Drop words frame);
      replace = λ words d. alike replaced-injective (Call.Replace words d);
      open-window = λ words. alike opened-injective (Call.Tab words);
      traverse = λ words root δ room. alike traversed-injective (Call.Traverse words root δ room);
      position = λ words root. alike standing-injective (Call.Position words root);
      visible = λ words d. alike sight-injective (Call.Visible words d);
      lists = λ words root takens upcomings. alike listed-injective (Call.Lists words root takens upcomings);
      stretch-count = λ takens upcomings δ. alike stretch-injective (Call.StretchCount takens upcomings δ);
      outline = λ words root room. alike outlined-injective (Call.Outline words root room);
      save = λ words room. alike saving-injective (Call.Save words room);
      load = λ words bytes. alike loading-injective (Call.Load words bytes);
      load-old = λ words bytes. alike loading-injective (Call.LoadOld words bytes);
      contents = λ bytes. alike told-injective (Call.Contents bytes);
      contents-old = λ bytes. alike told-injective (Call.ContentsOld bytes);
      set-place = λ words places d place. alike setting-injective (Call.SetPlace words places d place);
      place = λ words places d. place-alike (Call.AskPlace words places d);
      place-at-zoom = λ words places d zoom. place-alike (Call.AskAtZoom words places d zoom);
      stretch = λ takens upcomings δ x y e f. e ∙ sym f;
      traverse-rows = λ words root δ rows (r, words', rows') (q, words'', rows'') e f.
          let g = alike traversed-injective (Call.Traverse words root δ (plain rows)) (r, words' ∷ plain rows' ∷ []) (q, words'' ∷ plain rows'' ∷ []) e f in
          λ i. ((g i).0, get_or (g i).1 0 [], rows_alike words' words'' rows' rows'' (ap (λ z. z.1) g) i);
      shift-sound = λ words stand δ room l (r, words', text) (q, words'', text') (s, h, a, t) (s', h', a', t').
          let g = shift-alike words stand l δ room s s' words' words'' h h' in λ i. ((sym a ∙ g.0 ∙ a') i, g.1 i, (sym t ∙ g.2 ∙ t') i);
      turn = λ words changes line x y e f. let g = sym e ∙ f in λ i. (reply-injective x.0 y.0 (ap (λ z. z.said) g) i, (g i).words, (g i).changes);
      parse = λ line x y e f. command-injective x y (e ∙ sym f);
      host = λ c olds x y e f. let g = sym e ∙ f in λ i. ((g i).number, (g i).outs, (g i).lent);
      host-place = λ c olds x y e f. let g = sym e ∙ f in λ i. ((g i).number, (g i).outs, (g i).lent);
      host-hiding = λ c olds old x y e f. let g = sym e ∙ f in λ i. ((g i).seen.number, (g i).seen.outs, (g i).seen.lent, (g i).hiding);
      host-rows = λ words root δ rows olds (n, outs, words', rows') (m, outs', words'', rows'') e f.
          let g = sym e ∙ f in λ i. ((g i).number, (g i).outs, get_or (g i).lent 0 [], rows_alike words' words'' rows' rows'' (ap (λ z. z.lent) g) i);
    }
