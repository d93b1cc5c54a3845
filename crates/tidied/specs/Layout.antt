-- Where things stand in the tidy pool: the words of its nodes, and the children of its nodes.
use Rattle.std.specs.Prelude.{◌≡◌, Bool, true, List, [], ◌∷◌, ◌++◌, ℕ, zero, suc, ◌+◌, ◌*◌, ◌^◌, ◌≤◌, ◌<◌, length, get_or, take, drop}
use Rattle.std.proofs.Math.Path.{refl, sym}
use Rattle.std.proofs.Common.{ap, ◌∙◌, not-suc-le-zero, le_of_suc-le-suc, pow_mono, length-append, get_or-append-add}
use native.Mathlib.Omega.{arith}
use Rattle.std.proofs.Math.Nat.{pow-succ'}
use Rattle.std.proofs.Math.ListN.{get_or-append}
use Rattle.defs.specs.declared.Prefix.{Prefix}
use Rattle.defs.specs.Basics.{each, up_to}
use Rattle.defs.specs.Prefix.{deeper, top}
use Rattle.defs.specs.Pool.{data_of, child_of, first_child, first_value, data_bit}
use Rattle.defs.specs.Entries.{Entry}
use Rattle.defs.specs.Lists.{is_in}
use Rattle.defs.specs.Tidy.{data_prefixes, child_prefixes, is_under, entries_in, children_of, nodes_from, nodes_of, word_of, pool_from}
use Rattle.defs.specs.Lemmas.{All, nil, more, all_imp, all_append, all_map, all_true, all_keep, all_kept, keep_false, each_append}
use Rattle.defs.specs.EntryLaws.{Sound}
use Rattle.tidied.specs.ListFacts.{full, any_full, each_at, each_none, all_each, at_up_to, at_rows}
use Rattle.tidied.specs.Halving.{under_none}

-- data bit 2 ^ n - 1 + v is that of n bits of value v; child bit c is that of 5 bits of value c
pub data_bit_lem : (p : Prefix) (n v : ℕ) (d : Prefix) → n < 5 → v < 2 ^ n → (data_bit n v < length (data_prefixes p)) × (get_or (data_prefixes p) (data_bit n v) d ≡ deeper p n v)
unfolding data_prefixes
data_bit_lem p n v d nl vl = ((let a : 2 ^ suc n ≤ 32 = pow_mono nl in omega (arith, pow-succ' 2 n)), at_rows (deeper p) 5 n v d nl vl)

pub child_bit : (p : Prefix) (c : ℕ) (d : Prefix) → c < 32 → (c < length (child_prefixes p)) × (get_or (child_prefixes p) c d ≡ deeper p 5 c)
unfolding child_prefixes
child_bit p c d l = (l, at_up_to (deeper p 5) 32 c d l)

pub data_count : (p : Prefix) → length (data_prefixes p) ≡ 31
unfolding data_prefixes
data_count p = refl

pub child_count : (p : Prefix) → length (child_prefixes p) ≡ 32
unfolding child_prefixes
child_count p = refl

pub child_lens : (p : Prefix) → All (λ q. q.len ≡ p.len + 5) (child_prefixes p)
unfolding child_prefixes
child_lens p = all_map (deeper p 5) (all_true (λ c. refl) (up_to 32))

module _ (es : List Entry) where
  -- q is the prefix of an entry
  abbrev pub is_here : Prefix → Bool
  is_here q = is_in q es

  -- the words of node j, of prefix p, after so many children and values
  pub record NodeWords (w : List ℕ) (j : ℕ) (p : Prefix) (children values : ℕ) : Type 0 where
    pub datas : data_of w j ≡ word_of is_here (data_prefixes p)
    pub childs : child_of w j ≡ word_of (is_under es) (child_prefixes p)
    pub first_c : first_child w j ≡ 1 + children
    pub first_v : first_value w j ≡ values

  pub words_at : (ps : List Prefix) (c v j : ℕ) (d : Prefix) → j < length ps
      → NodeWords (pool_from es ps c v) j (get_or ps j d) (c + length (each (children_of es) (take j ps))) (v + length (each (entries_in es) (take j ps)))
  words_at [] c v j d h = absurd (not-suc-le-zero h)
  words_at (p ∷ ps) c v zero d h = record { datas = refl; childs = refl; first_c = omega arith; first_v = omega arith }
  words_at (p ∷ ps) c v (suc j) d h =
      let r = words_at ps (c + length (children_of es p)) (v + length (entries_in es p)) j d (le_of_suc-le-suc h) in
      let e : 4 * suc j ≡ suc (suc (suc (suc (4 * j)))) = omega arith in
      let e1 : 4 * suc j + 1 ≡ suc (suc (suc (suc (4 * j + 1)))) = omega arith in
      let e2 : 4 * suc j + 2 ≡ suc (suc (suc (suc (4 * j + 2)))) = omega arith in
      let e3 : 4 * suc j + 3 ≡ suc (suc (suc (suc (4 * j + 3)))) = omega arith in
      let all = pool_from es (p ∷ ps) c v in
      record {
        datas = ap (λ (i : ℕ). get_or all i 0) e ∙ r.datas;
        childs = ap (λ (i : ℕ). get_or all i 0) e1 ∙ r.childs;
        first_c = ap (λ (i : ℕ). get_or all i 0) e2 ∙ r.first_c ∙ omega (arith, length-append (children_of es p) (each (children_of es) (take j ps)));
        first_v = ap (λ (i : ℕ). get_or all i 0) e3 ∙ r.first_v ∙ omega (arith, length-append (entries_in es p) (each (entries_in es) (take j ps)));
      }

  -- four words a node
  pub pool_length : (ps : List Prefix) (c v : ℕ) → length (pool_from es ps c v) ≡ 4 * length ps
  pool_length [] c v = refl
  pool_length (p ∷ ps) c v = omega (arith, pool_length ps (c + length (children_of es p)) (v + length (entries_in es p)))

  -- the nodes of one level more: the first level, and the children of the nodes
  nodes_next : (k : ℕ) (ps : List Prefix) → each (children_of es) (nodes_from es k ps) ≡ nodes_from es k (each (children_of es) ps)
  nodes_next zero ps = refl
  nodes_next (suc k) ps =
      each_append (children_of es) ps (nodes_from es k (each (children_of es) ps))
      ∙ ap (each (children_of es) ps ++◌) (nodes_next k (each (children_of es) ps))

  nodes_more : (k : ℕ) (ps : List Prefix) → nodes_from es (suc k) ps ≡ ps ++ each (children_of es) (nodes_from es k ps)
  nodes_more k ps = ap (ps ++◌) (sym (nodes_next k ps))

  pub kids_lens : (l : ℕ) (p : Prefix) → p.len ≡ l → All (λ q. q.len ≡ l + 5) (children_of es p)
  kids_lens l p h = all_keep (is_under es) (all_imp (λ q e. omega arith) (child_lens p))

  -- an entry lies in every node but the first, or below it
  nodes_used : (k : ℕ) {ps : List Prefix} → All (λ p. is_under es p ≡ true) ps → All (λ p. is_under es p ≡ true) (nodes_from es k ps)
  nodes_used zero h = nil
  nodes_used (suc k) h = all_append h (nodes_used k (all_each (children_of es) (λ p i. all_kept (is_under es) (child_prefixes p)) h))

  pub all_used : All (λ p. is_under es p ≡ true) (drop 1 (nodes_of es))
  unfolding nodes_of
  all_used = nodes_used 12 (all_append (all_kept (is_under es) (child_prefixes top)) nil)

  -- there is always the root
  pub root_node : (d : Prefix) → (0 < length (nodes_of es)) × (get_or (nodes_of es) 0 d ≡ top)
  unfolding nodes_of
  root_node d = (omega arith, refl)

module _ (es : List Entry) (s : Sound top es) where
  -- a node at depth 60 has no children
  kids_none : (p : Prefix) → p.len ≡ 60 → children_of es p ≡ []
  kids_none p h = keep_false (is_under es) (all_imp (λ q e. any_full _ es ∙ ap full (under_none es s q (omega arith))) (child_lens p))

  nodes_stop : (k : ℕ) (ps : List Prefix) (l : ℕ) → l + 5 * suc k ≡ 65 → All (λ p. p.len ≡ l) ps → nodes_from es (suc (suc k)) ps ≡ nodes_from es (suc k) ps
  nodes_stop zero ps l e h = ap (λ (x : List Prefix). ps ++ (x ++ [])) (each_none (children_of es) (λ p q. kids_none p (omega arith)) h)
  nodes_stop (suc k) ps l e h = ap (ps ++◌) (nodes_stop k (each (children_of es) ps) (l + 5) (omega arith) (all_each (children_of es) (kids_lens es l) h))

  -- all nodes: the root, and the children of all nodes
  pub nodes_fix : nodes_of es ≡ top ∷ each (children_of es) (nodes_of es)
  unfolding nodes_of
  nodes_fix = sym (nodes_stop 12 (top ∷ []) 0 refl (more refl nil)) ∙ nodes_more es 13 (top ∷ [])

  abbrev N : List Prefix
  N = nodes_of es

  abbrev kids : Prefix → List Prefix
  kids = children_of es

  -- a child of node j stands in the list of nodes where node j's words say
  pub child_index : (j : ℕ) (d : Prefix) → j < length N → (r : ℕ) → r < length (kids (get_or N j d))
      → let i = 1 + (length (each kids (take j N)) + r) in (i < length N) × (get_or N i d ≡ get_or (kids (get_or N j d)) r d)
  child_index j d h r l =
      let p = get_or N j d in
      let before = each kids (take j N) in
      let after = each kids (drop (suc j) N) in
      let e : N ≡ top ∷ (before ++ (kids p ++ after)) = nodes_fix ∙ ap (top ∷◌) (each_at kids N j d h) in
      let i : 1 + (length before + r) ≡ suc (length before + r) = omega arith in (
        omega (arith, ap length e, length-append before (kids p ++ after), length-append (kids p) after),
        ap (λ (x : List Prefix). get_or x (1 + (length before + r)) d) e
            ∙ ap (λ (x : ℕ). get_or (top ∷ (before ++ (kids p ++ after))) x d) i
            ∙ get_or-append-add before (kids p ++ after) r d
            ∙ get_or-append (kids p) after d r l,
      )
