-- The loop of a side.
use mathlib.Core.Path.{◌≡◌, refl, sym, ◌∙◌, ap, ap₂}
use mathlib.Core.Bool.{◌&&◌}
use mathlib.Core.List.{List, [], ◌∷◌, ◌++◌, append_assoc, append-nil}
use Prim.Native.Nat.{ℕ, zero, suc, ◌+◌, ◌*◌, ◌/◌, ◌%◌, ◌^◌, ◌<◌, ◌≤◌}
use native.Mathlib.Nat.{pow-suc}
use native.Mathlib.Omega.{arith}
use lib.Count.{ones_in, ones_step, ones-le}
use lib.Count.{ones as count_ones}
use lib.ListN.{length, take, drop, length-append, length-drop, take-append-drop}
use lib.Seq.{drop-drop, take_at, drop_at, length-take-le}
use borrow.Rule.Slice.PartMut.{put_mid}
use Rattle.std.specs.Prelude.{Option, Some, None}
use Rattle.defs.specs.Lemmas.{split}
use Rattle.defs.specs.Pool.{ones}
use Rattle.text.specs.declared.Part.{Part}
use Rattle.text.specs.declared.Node.{Node}
use Rattle.text.specs.Bytes.{tab, is_at, line, rest}
use Rattle.text.specs.Numbers.{hex_of}
use Rattle.text.specs.Input.{starts, node_of, node_line, Side, behind_words, for_node, side_of, room_of}
use Rattle.text.specs.Parts.{IsSide}
use Rattle.text.proofs.NumberLaws.{hex_below}

-- the count of ones that the machine gives is that of a word's 32 bits
ones_are : (k n : ℕ) → n < 2 ^ k → count_ones n ≡ ones_in k n
unfolding ones_in count_ones
ones_are zero n h = let z : n ≡ 0 = omega arith in ap count_ones z
ones_are (suc k) n h = ones_step n ∙ ap (λ (x : ℕ). n % 2 + x) (ones_are k (n / 2) (omega (arith, pow-suc 2 k)))

-- the bitmaps of a node line are words
node_of_small : (a b : List ℕ) (x y : Option ℕ) (node : Node) → x ≡ hex_of 8 a → y ≡ hex_of 8 b → Some node ≡ node_of x y → (node.data_bits < 2 ^ 32) × (node.child_bits < 2 ^ 32)
node_of_small a b None y node e f q = cc
node_of_small a b (Some x) None node e f q = cc
node_of_small a b (Some x) (Some y) node e f q =
    let n : node ≡ record { data_bits = x; child_bits = y } = cc in
    rw n (omega (arith, hex_below 8 a x e), omega (arith, hex_below 8 b y f))

node_small : (letter : ℕ) (s : List ℕ) (node : Node) → Some node ≡ node_line letter s → (node.data_bits < 2 ^ 32) × (node.child_bits < 2 ^ 32)
node_small letter s node q =
    split (starts letter s && is_at 10 tab s)
    (λ b. node_of_small (take 8 (drop 2 s)) (drop 11 s) (hex_of 8 (take 8 (drop 2 s))) (hex_of 8 (drop 11 s)) node refl refl (rw b at q))
    (λ b. let e : Some node ≡ None = rw b at q in cc)

-- the words that are in the buffer stand in front of those that are still to come
pub record Filling (input old : List ℕ) (letter : ℕ) (new left : List ℕ) (room words child value : ℕ) : Type 0 where
  pub long : length new ≡ length old
  pub fits : words + 4 * room ≤ length old
  pub child_small : child + 32 * room ≤ 32769
  pub value_small : value + 32 * room ≤ 32768
  pub kept : drop words new ≡ drop words old
  pub so_far : side_of letter (room_of old) 1 0 input ≡ behind_words (take words new) (side_of letter room child value left)

module _ (input old : List ℕ) (letter : ℕ) (new left : List ℕ) (room words child value : ℕ) (f : Filling input old letter new left room words child value) where
  -- the side is over
  fill_over : (p : Part) → p.words ≡ words → p.rest.now ≡ left → side_of letter room child value left ≡ record { words = []; left_over = left }
      → IsSide (side_of letter (room_of old) 1 0 input) old new p
  fill_over p pw pr e =
      let q : side_of letter (room_of old) 1 0 input ≡ record { words = take words new; left_over = left } =
      f.so_far ∙ ap (behind_words (take words new)) e ∙ ap (λ (w : List ℕ). record { words = w; left_over = left }) (append-nil (take words new)) in
      let l : length (take words new) ≡ words = length-take-le words new (omega (arith, f.long, f.fits)) in
      rw q
      record {
        counted = pw ∙ sym l;
        goes_on = pr;
        holds = sym (take-append-drop words new) ∙ ap (λ (t : List ℕ). take words new ++ t) (f.kept ∙ ap (λ (k : ℕ). drop k old) (sym l));
      }

  pub fill_no_room : (p : Part) → p.words ≡ words → p.rest.now ≡ left → room ≡ 0 → IsSide (side_of letter (room_of old) 1 0 input) old new p
  fill_no_room p pw pr z = fill_over p pw pr (ap (λ (k : ℕ). side_of letter k child value left) z)

  -- there is room for a node
  module _ (less : ℕ) (m : suc less ≡ room) where
    after_node : Option Node → Side
    after_node x =
        for_node x (record { words = []; left_over = left }) (λ d c. behind_words (d ∷ c ∷ child ∷ value ∷ []) (side_of letter less (child + ones c) (value + ones d) (rest left)))

    pub fill_bad : (p : Part) → p.words ≡ words → p.rest.now ≡ left → None ≡ node_line letter (line left) → IsSide (side_of letter (room_of old) 1 0 input) old new p
    fill_bad p pw pr e = fill_over p pw pr (ap (λ (k : ℕ). side_of letter k child value left) (sym m) ∙ unfold after_node in ap after_node (sym e))

    -- one node more
    module _ (node : Node) (next : List ℕ) (e : Some node ≡ node_line letter (line left)) (q : next ≡ rest left) where
      small : (node.data_bits < 2 ^ 32) × (node.child_bits < 2 ^ 32)
      small = node_small letter (line left) node e

      child_more : count_ones node.child_bits ≤ 32
      child_more = ones-le 32 node.child_bits small.1

      value_more : count_ones node.data_bits ≤ 32
      value_more = ones-le 32 node.data_bits small.0

      pub fill_on : (k : ℕ) → k ≡ 4 → (four : List ℕ) → four ≡ node.data_bits ∷ node.child_bits ∷ child ∷ value ∷ []
          → Filling input old letter (put_mid words k new four) next less (words + 4) (child + count_ones node.child_bits) (value + count_ones node.data_bits)
      fill_on k ke four fe =
          record {
            long = ap length stands ∙ length-append (take words new ++ four) (drop (words + 4) old) ∙ omega (arith, four_long, length-drop (words + 4) old, f.fits);
            fits = omega (arith, f.fits);
            child_small = omega (arith, child_more, f.child_small);
            value_small = omega (arith, value_more, f.value_small);
            kept = ap (drop (words + 4)) stands ∙ drop_at (take words new ++ four) (drop (words + 4) old) (words + 4) four_long;
            so_far =
                f.so_far ∙ ap (behind_words (take words new)) step
                ∙ ap (λ (l : List ℕ). record { words = l; left_over = onwards.left_over }) (sym (append_assoc (take words new) four onwards.words))
                ∙ ap (λ (l : List ℕ). behind_words l onwards) (sym (ap (take (words + 4)) stands ∙ take_at (take words new ++ four) (drop (words + 4) old) (words + 4) four_long));
          }
        where
          onwards : Side
          onwards = side_of letter less (child + count_ones node.child_bits) (value + count_ones node.data_bits) next

          four_long : length (take words new ++ four) ≡ words + 4
          four_long = length-append (take words new) four ∙ ap₂ ◌+◌ (length-take-le words new (omega (arith, f.long, f.fits))) (ap length fe)

          tail : drop k (drop words new) ≡ drop (words + 4) old
          tail = ap₂ drop ke f.kept ∙ drop-drop 4 words old

          stands : put_mid words k new four ≡ (take words new ++ four) ++ drop (words + 4) old
          stands = ap (λ (t : List ℕ). take words new ++ (four ++ t)) tail ∙ sym (append_assoc (take words new) four (drop (words + 4) old))

          step : side_of letter room child value left ≡ behind_words four onwards
          step =
              ap (λ (j : ℕ). side_of letter j child value left) (sym m) ∙ unfold after_node in ap after_node (sym e)
              ∙ ap (λ (w : List ℕ). behind_words w (side_of letter less (child + ones node.child_bits) (value + ones node.data_bits) (rest left))) (sym fe)
              ∙ ap (behind_words four)
              (ap₂ (λ (u v : ℕ). side_of letter less (child + u) (value + v) (rest left)) (sym (ones_are 32 node.child_bits small.1)) (sym (ones_are 32 node.data_bits small.0))
              ∙ ap (side_of letter less (child + count_ones node.child_bits) (value + count_ones node.data_bits)) (sym q))
