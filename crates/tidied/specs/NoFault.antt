-- The tidy pool has no fault, where no entry is longer than the width and there are not too many nodes.
use Rattle.std.specs.Prelude.{◌≡◌, true, false, ◌&&◌, leb, ltb, eqb, get_or, take, replicate}
use Rattle.std.proofs.Math.Path.{refl, subst}
use Rattle.std.proofs.Common.{sym, ap, ap₂, ◌∙◌, zero-add, eq-eqb, ne_eqb, le-ltb, leb-true, length-append}
use mathlib.Core.List.{List, [], ◌∷◌, ◌++◌, map, append_assoc, append-nil}
use Prim.Native.Nat.{ℕ, zero, suc, ◌+◌, ◌-◌, ◌*◌, ◌/◌, ◌%◌, ◌^◌, ◌≤◌, ◌<◌, min}
use native.Mathlib.Omega.{arith}
use Rattle.std.proofs.lemmas.Bool.{lt-leb}
use Rattle.std.proofs.Math.ListN.{length}
use Rattle.std.proofs.Math.Seq.{get_or-append_seam, take-append_seam}
use Rattle.defs.specs.declared.Prefix.{Prefix}
use Rattle.defs.specs.Basics.{if◌then◌otherwise◌, each}
use Rattle.defs.specs.Prefix.{leads, same, deeper, top}
use Rattle.defs.specs.Pool.{node_count, data_of, child_of, first_child, first_value, ones}
use Rattle.defs.specs.Entries.{Entry}
use Rattle.defs.specs.Check.{pool_limit, Fault, usable, fault_at, fault_from, fault_of}
use Rattle.defs.specs.Tidy.{data_prefixes, child_prefixes, is_under, entries_in, children_of, nodes_from, nodes_of, word_of, tidy_pool}
use Rattle.defs.specs.Lemmas.{All, nil, more, split, is_false, all_imp, any_false, map_append, each_append}
use Rattle.defs.specs.PrefixLaws.{same_says}
use Rattle.defs.proofs.PrefixLaws.{leads_len}
use Rattle.defs.specs.EntryLaws.{Sound}
use Rattle.tidied.specs.ListFacts.{rows, length_rows}
use Rattle.tidied.specs.Words.{word_rows, word_zero, ones_word}
use Rattle.tidied.specs.Layout.{data_count, child_count, child_lens, kids_lens, is_here, NodeWords, words_at, pool_length, root_node, nodes_fix}
use Rattle.tidied.specs.Holds.{count_onto}

-- the five facts that leave no fault at a node
faultless : (width : ℕ) (w : List ℕ) (i depth children values : ℕ)
    → data_of w i < 2 ^ usable width depth → (width ≤ depth + 4 → child_of w i ≡ 0) → first_child w i ≡ 1 + children
    → first_child w i + ones (child_of w i) ≤ node_count w → first_value w i ≡ values
    → fault_at width w i depth children values ≡ 0
faultless width w i depth children values a b c d e =
    rw (lt-leb _ _ a, five, eq-eqb (first_child w i) (1 + children) c, le-ltb (node_count w) (first_child w i + ones (child_of w i)) d, eq-eqb (first_value w i) values e)
  where
    five : (leb width (depth + 4) && ltb 0 (child_of w i)) ≡ false
    five = split (leb width (depth + 4)) (λ t. rw t (le-ltb 0 (child_of w i) (omega (arith, b (leb-true width (depth + 4) t))))) (λ t. rw t)

module _ (es : List Entry) (s : Sound top es) (width : ℕ) (fits : All (λ e. e.at.len ≤ width) es) where
  no_entry : (q : Prefix) → width < q.len → is_here es q ≡ false
  no_entry q h = any_false (λ e. same q e.at) (all_imp (λ (e : Entry) l. is_false _ (λ t. omega (arith, ap (λ (x : Prefix). x.len) (same_says q e.at t)))) fits)

  no_child : (q : Prefix) → width < q.len → is_under es q ≡ false
  no_child q h = any_false (λ e. leads q e.at) (all_imp (λ (e : Entry) l. is_false _ (λ t. omega (arith, leads_len q e.at t))) fits)

  data_fits : (p : Prefix) → word_of (is_here es) (data_prefixes p) < 2 ^ usable width p.len
  unfolding data_prefixes
  data_fits p =
      let m = min 5 (width + 1 - p.len) in
      let l = length_rows (deeper p) m in
      let e : length (rows (deeper p) m) ≡ usable width p.len = omega arith in
      subst (λ (x : ℕ). word_of (is_here es) (rows (deeper p) 5) < 2 ^ x) e
      (word_rows (is_here es) (deeper p) m 5 (omega arith) (λ n v a b. no_entry (deeper p n v) (omega arith)))

  child_none : (p : Prefix) → width ≤ p.len + 4 → word_of (is_under es) (child_prefixes p) ≡ 0
  child_none p h = word_zero (is_under es) (all_imp (λ q e. no_child q (omega arith)) (child_lens p))

  abbrev N : List Prefix
  N = nodes_of es

  abbrev pool : List ℕ
  pool = tidy_pool es

  abbrev kids : Prefix → List Prefix
  kids = children_of es

  abbrev ins : Prefix → List Entry
  ins = entries_in es

  -- no fault at the node after `pre`
  node_ok : (pre : List Prefix) (p : Prefix) (post : List Prefix) → N ≡ pre ++ (p ∷ post)
      → (fault_at width pool (length pre) p.len (length (each kids pre)) (length (each ins pre)) ≡ 0)
      × (ones (child_of pool (length pre)) ≡ length (kids p)) × (ones (data_of pool (length pre)) ≡ length (ins p))
  node_ok pre p post e = (
    faultless width pool j p.len (length (each kids pre)) (length (each ins pre))
        (subst (◌< 2 ^ usable width p.len) (sym w.datas) (data_fits p))
        (λ h. w.childs ∙ child_none p h)
        (w.first_c ∙ ap (1 +◌) (zero-add _))
        room
        (w.first_v ∙ zero-add _),
    children,
    ap ones w.datas ∙ ones_word (is_here es) (data_prefixes p) (omega (arith, data_count p)) ∙ sym (count_onto es s.ascend (data_prefixes p)),
  )
    where
      j : ℕ
      j = length pre

      nl : j < length N
      nl = omega (arith, ap length e, length-append pre (p ∷ post))

      np : get_or N j top ≡ p
      np = ap (λ (x : List Prefix). get_or x j top) e ∙ get_or-append_seam pre p post top

      tp : take j N ≡ pre
      tp = ap (take j) e ∙ take-append_seam pre (p ∷ post)

      w : NodeWords es pool j p (0 + length (each kids pre)) (0 + length (each ins pre))
      w =
          subst (λ (x : Prefix). NodeWords es pool j x (0 + length (each kids pre)) (0 + length (each ins pre))) np
          (subst (λ (t : List Prefix). NodeWords es pool j (get_or N j top) (0 + length (each kids t)) (0 + length (each ins t))) tp (words_at es N 0 0 j top nl))

      children : ones (child_of pool j) ≡ length (kids p)
      children = ap ones w.childs ∙ ones_word (is_under es) (child_prefixes p) (omega (arith, child_count p))

      room : first_child pool j + ones (child_of pool j) ≤ node_count pool
      room =
          let a = ap length (nodes_fix es s) in
          let b = ap length (ap (each kids) e ∙ each_append kids pre (p ∷ post)) in
          let c = length-append (each kids pre) (kids p ++ each kids post) in
          let d = length-append (kids p) (each kids post) in
          let f = pool_length es N 0 0 in
          let g = w.first_c in
          omega (arith, children)

  abbrev lens : List Prefix → List ℕ
  lens ps = map (λ p. p.len) ps

  -- the rest of a level, and the levels below it; ks are the children so far
  abbrev rest : ℕ → List Prefix → List Prefix → List Prefix
  rest k ps ks = ps ++ nodes_from es k (ks ++ each kids ps)

  abbrev Scan : ℕ → List Prefix → List Prefix → List Prefix → Type 0
  Scan k ps ks pre =
      N ≡ pre ++ rest k ps ks
      → (fault_from width pool (length (rest k ps ks)) (length pre) (lens ps ++ lens ks) (length (each kids pre)) (length (each ins pre))).number ≡ 0

  kids_depths : (d : ℕ) {ps : List Prefix} → All (λ q. q.len ≡ d) ps → lens ps ≡ replicate (length ps) d
  kids_depths d nil = refl
  kids_depths d (more h hs) = ap₂ ◌∷◌ h (kids_depths d hs)

  abbrev from_here : ℕ → Prefix → List Prefix → List Prefix → List Prefix → Fault
  from_here k p ps ks pre =
      fault_from width pool (length (ps ++ nodes_from es k (ks ++ (kids p ++ each kids ps)))) (suc (length pre))
      (lens ps ++ lens ks ++ replicate (ones (child_of pool (length pre))) (p.len + 5))
      (length (each kids pre) + ones (child_of pool (length pre))) (length (each ins pre) + ones (data_of pool (length pre)))

  args : {l l' i i' c c' v v' : ℕ} {d d' : List ℕ} → l ≡ l' → i ≡ i' → d ≡ d' → c ≡ c' → v ≡ v'
      → (fault_from width pool l i d c v).number ≡ (fault_from width pool l' i' d' c' v').number
  args p q r s t = λ x. (fault_from width pool (p x) (q x) (r x) (s x) (t x)).number

  -- the count of what one more node adds
  one_more : {B : Type 0} (f : Prefix → List B) (pre : List Prefix) (p : Prefix) → length (each f pre) + length (f p) ≡ length (each f (pre ++ (p ∷ [])))
  one_more f pre p =
      omega (arith, ap length (each_append f pre (p ∷ [])), length-append (each f pre) (f p ++ []), ap length (append-nil (f p)))

  level : (k : ℕ) → ((ks pre : List Prefix) → Scan k [] ks pre) → (ps ks pre : List Prefix) → Scan k ps ks pre
  level k done [] ks pre e = done ks pre e
  level k done (p ∷ ps) ks pre e =
      let one = p ∷ [] in
      let i = length pre in
      let n = node_ok pre p (ps ++ nodes_from es k (ks ++ (kids p ++ each kids ps))) e in
      let assoc = sym (append_assoc ks (kids p) (each kids ps)) in
      let next = level k done ps (ks ++ kids p) (pre ++ one) (e ∙ ap (λ (x : List Prefix). pre ++ (p ∷ (ps ++ nodes_from es k x))) assoc ∙ sym (append_assoc pre one _)) in
      ap (λ (f : ℕ). (if ltb 0 f then record { number = f; node = i } otherwise from_here k p ps ks pre).number) n.0
      ∙ args (ap (λ (x : List Prefix). length (ps ++ nodes_from es k x)) assoc)
      (let z : suc i ≡ length (pre ++ one) = omega (arith, length-append pre one) in z)
      (append_assoc (lens ps) (lens ks) _
      ∙ ap (lens ps ++◌)
      (ap (lens ks ++◌) (ap (λ (x : ℕ). replicate x (p.len + 5)) n.1 ∙ sym (kids_depths (p.len + 5) (kids_lens es p.len p refl)))
      ∙ sym (map_append (λ (q : Prefix). q.len) ks (kids p))))
      (ap (length (each kids pre) +◌) n.1 ∙ one_more kids pre p)
      (ap (length (each ins pre) +◌) n.2 ∙ one_more ins pre p)
      ∙ next

  scan : (k : ℕ) (ps ks pre : List Prefix) → Scan k ps ks pre
  scan zero = level zero (λ ks pre e. refl)
  scan (suc k) =
      level (suc k)
      (λ ks pre e.
      ap₂ (λ (x : List Prefix) (d : List ℕ). (fault_from width pool (length (nodes_from es (suc k) x)) (length pre) d (length (each kids pre)) (length (each ins pre))).number)
      (append-nil ks) (sym (append-nil (lens ks)))
      ∙ scan k ks [] pre (e ∙ ap (λ (x : List Prefix). pre ++ nodes_from es (suc k) x) (append-nil ks)))

  scanned : (fault_from width pool (length N) 0 (0 ∷ []) 0 0).number ≡ 0
  unfolding nodes_of
  scanned = scan 12 (top ∷ []) [] [] refl

  pub no_fault : length N ≤ pool_limit → (fault_of width pool).number ≡ 0
  no_fault h =
      let n = length pool in
      let l : n ≡ 4 * length N = pool_length es N 0 0 in
      let some = (root_node es top).0 in
      let d : n / 4 ≡ length N = omega arith in
      let a : eqb n 0 ≡ false = ne_eqb n 0 (λ z. omega arith) in
      let b : eqb (n % 4) 0 ≡ true = eq-eqb (n % 4) 0 (omega arith) in
      let c : ltb pool_limit (n / 4) ≡ false = le-ltb pool_limit (n / 4) (omega arith) in
      rw (a, b, c, d) scanned
