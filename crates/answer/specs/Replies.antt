-- From the reader's outcome and a call's to the text: how the program's parts come together.
use Rattle.std.specs.Prelude.{◌≡◌, Bool, true, false, List, [], ℕ, ◌+◌, ◌≤◌, ltb, eqb, length, replicate, drop, Result, Ok, Err}
use Rattle.std.proofs.Common.{sym, ap, ap₂, ◌∙◌, subst, arith, length-append}
use Prim.Native.Char.{code}
use Rattle.defs.specs.declared.Answer.{Answer}
use Rattle.defs.specs.Basics.{if◌then◌otherwise◌}
use Rattle.defs.specs.Pool.{node_count}
use Rattle.defs.specs.Lemmas.{split}
use Rattle.defs.specs.Outcome.{answer}
use Rattle.text.specs.declared.Call.TheVariants.{Equality}
use Rattle.text.specs.declared.Head.{Head}
use Rattle.text.specs.declared.Said.{Said}
use Rattle.text.specs.declared.BadInput.{BadInput}
use Rattle.text.specs.declared.BadInput.TheVariants.{Line}
use Rattle.text.specs.Bytes.{skip}
use Rattle.text.specs.Input.{Outcome, Side, line_number, over, read_outcome, after_head, request_of, room_of, top_of, side_of}
use Rattle.text.specs.Output.{output_of, Wrote}
use Rattle.answer.specs.Answering.{leaves, said_by, lines_of, reply_to, text_of}

-- the pools that a request names lie inside the buffers
abbrev pub Inside : Result Said BadInput → List ℕ → List ℕ → Type 0
Inside (Ok s) left right = (s.left ≤ length left) × (s.right ≤ length right)
Inside (Err e) left right = Unit

over_long : (new old : List ℕ) → length new ≤ length (over new old)
over_long new old = omega (arith, length-append new (drop (length new) old))

nodes_inside : (h : Head) (l r : Side) (left right : List ℕ) → Inside (request_of h l r) (over l.words left) (over r.words right)
nodes_inside h l r left right = go (5 + node_count l.words + node_count r.words) (eqb (length r.left_over) 0)
  where
    go : (n : ℕ) (b : Bool) → Inside (if b then Ok (record { head = h; left = length l.words; right = length r.words }) otherwise Err (Line n)) (over l.words left) (over r.words right)
    go n true = (over_long l.words left, over_long r.words right)
    go n false = tt

top_inside : (t : Result Head BadInput) (s left right : List ℕ) → let o = after_head t s left right in Inside o.request o.left o.right
top_inside (Err e) s left right = tt
top_inside (Ok h) s left right =
    let l = side_of (code "l") (room_of left) 1 0 s in
    nodes_inside h l (side_of (code "r") (room_of right) 1 0 l.left_over) left right

read_inside : (s left right : List ℕ) → let o = read_outcome s left right in Inside o.request o.left o.right
read_inside s left right =
    split (ltb 65536 (length s)) (λ e. rw e tt) (λ e. rw e (top_inside (top_of s) (skip 4 s) left right))

-- what reading leaves, as code has it
abbrev pub read : Result Said BadInput → List ℕ → List ℕ → Outcome
read q left right = record { request = q; left = left; right = right }

module _ (s left₀ right₀ : List ℕ) (q : Result Said BadInput) (left right : List ℕ) (e : read_outcome s left₀ right₀ ≡ read q left right) where
  pub pools_inside : (said : Said) → q ≡ Ok said → (said.left ≤ length left) × (said.right ≤ length right)
  pools_inside said g =
      subst (λ (x : Result Said BadInput). Inside x left right) g (subst (λ (o : Outcome). Inside o.request o.left o.right) e (read_inside s left₀ right₀))

  module _ (el : left₀ ≡ replicate 4096 0) (er : right₀ ≡ replicate 4096 0) where
    reply : text_of s ≡ reply_to q left right
    reply =
        ap₂ (λ (l r : List ℕ). let o = read_outcome s l r in reply_to o.request o.left o.right) (sym el) (sym er)
        ∙ ap (λ (o : Outcome). reply_to o.request o.left o.right) e

    good_text : (said : Said) → q ≡ Ok said → (a : Answer) (records₀ records : List ℕ) → records₀ ≡ replicate 3072 0 → leaves a records ≡ said_by said left right records₀
        → output_of said.head.call a records ≡ text_of s
    good_text said g a records₀ records ez h =
        sym (reply ∙ ap (λ (x : Result Said BadInput). reply_to x left right) g ∙ ap (lines_of said.head.call) (ap (said_by said left right) (sym ez) ∙ sym h))

    -- what was written for a good request is the text
    pub good_wrote : (said : Said) → q ≡ Ok said → {a : Answer} {records₀ records : List ℕ} → records₀ ≡ replicate 3072 0 → leaves a records ≡ said_by said left right records₀
        → {old new : List ℕ} {n : ℕ} → Wrote (output_of said.head.call a records) old n new → Wrote (text_of s) old n new
    good_wrote said g {a = a} {records₀ = records₀} {records = records} ez h {old = old} {new = new} {n = n} w =
        subst (λ (t : List ℕ). Wrote t old n new) (good_text said g a records₀ records ez h) w

    bad_text : (refused : BadInput) → q ≡ Err refused → (a : Answer) → a ≡ answer 9 (line_number refused) 0 → (records : List ℕ) → output_of Equality a records ≡ text_of s
    bad_text refused g a ea records = sym (reply ∙ ap (λ (x : Result Said BadInput). reply_to x left right) g ∙ ap (λ (x : Answer). output_of Equality x []) (sym ea))

    -- and so it is for a bad one
    pub bad_wrote : (refused : BadInput) → q ≡ Err refused → {a : Answer} → a ≡ answer 9 (line_number refused) 0 → (records : List ℕ) {old new : List ℕ} {n : ℕ} → Wrote (output_of Equality a records) old n new → Wrote (text_of s) old n new
    bad_wrote refused g {a = a} ea records {old = old} {new = new} {n = n} w = subst (λ (t : List ℕ). Wrote t old n new) (bad_text refused g a ea records) w
