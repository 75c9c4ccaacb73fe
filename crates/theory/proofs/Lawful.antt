-- Every step is lawful: its conditions give a case of the one relation between nets, and its next state has the qualities of a net.
use Rattle.std.proofs.Common.{◌≡◌, ℕ, ◌<◌, Bool, false, ◌≢◌, List, sym, refl, ap, ◌∙◌, subst, arith}
use Rattle.std.proofs.lemmas.Bool.{both_ways}
use Rattle.net.specs.States.{State, in_support}
use Rattle.net.specs.Qualities.{Qualities}
use Rattle.net.proofs.Keeps.{flag_below}
use Rattle.net.proofs.Tables.{passed}
use Rattle.theory.specs.Taken.{Taken, dominated, multiple, composed, draining, starved, sourceless, plentiful, implied, siphon, limit, post_agglomeration, pre_agglomeration, free_agglomeration, ahead, fusion}
use Rattle.theory.specs.Tests.{member}
use Rattle.theory.specs.Rewrites.{post_merging, pre_merging, firing_ahead, fusing}
use Rattle.theory.specs.Steps.{Step, drop_dominated, drop_multiple, drop_composed, drop_draining, drop_starved, keep_sourceless, remove_plentiful, remove_implied, drop_siphon, limit_to, post_agglomerate, pre_agglomerate, free_agglomerate, fire_ahead, fuse_places, table, next}
use Rattle.theory.specs.Laws.{net_of, Supports, Kept, StepsAreLawful}
use Rattle.theory.specs.Words.{Stands, Outside, Conditions}
use Rattle.theory.proofs.Meaning.{in_limits_says}
use Rattle.theory.proofs.Exact.{to_words}
use Rattle.theory.proofs.Law.{law}
use Rattle.theory.proofs.Rewriting.{finite, dropping_net, keeping_only_net, dropping_takers_net, leaving_net, limiting_net, post_merging_net, pre_merging_net, firing_ahead_net, fusing_net}
use Rattle.theory.proofs.Kept.{keeping_qualities, leaving_qualities, limiting_qualities, post_merging_qualities, pre_merging_qualities, firing_ahead_qualities, fusing_qualities}

-- Two transitions of different numbers differ; a place outside the support is in no support.
differ : (s : State) (t u : (net_of s).Trans) → t.0 ≢ u.0 → u ≢ t
differ s t u n e = n (sym (ap (λ (v : (net_of s).Trans). v.0) e))

unseen : (s : State) (p : ℕ) → Outside s p → Supports s p → ⊥
unseen s p o e = both_ways (in_support s p) o e

below : (s : State) (p : ℕ) → Qualities s → Stands s p → p < 64
below s p q e = omega (arith, flag_below s.standing p e, q.places)

pub taken_by : (s : State) (x : Step) → Qualities s → Conditions s x → Taken (Supports s) s.question (net_of s) (net_of (next s x))
taken_by s (drop_dominated t u) q (a, b, n, c) = dominated (t, a) (u, b) (differ s (t, a) (u, b) n) c (dropping_net s t a q.few)
taken_by s (drop_multiple t u k) q (a, b, n, k>0, c) =
    multiple (t, a) (u, b) k (differ s (t, a) (u, b) n) (omega arith) c (dropping_net s t a q.few)
taken_by s (drop_composed t u v) q (a, b, d, n, m, c) =
    composed (t, a) (u, b) (v, d) (differ s (t, a) (u, b) n) (differ s (t, a) (v, d) m) c (dropping_net s t a q.few)
taken_by s (drop_draining t) q c = draining (t, c.1.0) c.0 c.1.1 (dropping_net s t c.1.0 q.few)
taken_by s (drop_starved t p) q (a, _, unfed, c) = starved (t, a) p (λ u. omega (arith, unfed u)) c (dropping_net s t a q.few)
taken_by s (keep_sourceless t) q c = sourceless (t, c.1.0) c.0 c.1.1 (keeping_only_net s t c.1.0 q.few)
taken_by s (remove_plentiful p) q (_, o, c, d) = plentiful p (unseen s p o) c d (leaving_net s p q.few)
taken_by s (remove_implied p r k) q (_, _, n, k>0, o, c, d) =
    implied p r k (unseen s p o) (λ e. n (sym e)) (omega arith) c d (leaving_net s p q.few)
taken_by s (drop_siphon z) q (_, _, c, d) = siphon (member z) c d (dropping_takers_net s (member z) q.few)
taken_by s (limit_to z) q (r, _, h, c) = limit (member z) r h c (limiting_net s (member z) q.few)
taken_by s (post_agglomerate p) q (_, o, T, C, W, m, M) =
    post_agglomeration p (unseen s p o) T C W m (post_merging_net s p M.rows)
taken_by s (pre_agglomerate p) q (_, o, T, F, G, C, m, M) =
    pre_agglomeration p (unseen s p o) T F G C m (pre_merging_net s p M.rows)
taken_by s (free_agglomerate p) q (r, _, o, T, F, C, m, M) =
    free_agglomeration p r (unseen s p o) T F C m (pre_merging_net s p M.rows)
taken_by s (fire_ahead t k) q (a, _, x, _) = ahead (t, a) k x.0 x.1 x.2 (firing_ahead_net s t k a q.few)
taken_by s (fuse_places p r a b) q (c, d, sp, sr, n, o, o', C, D, _) =
    fusion p r (a, c) (b, d) (unseen s p o) (unseen s r o') (λ e. n (sym e)) C D (fusing_net s p r (below s p q sp) (below s r q sr) q.few)

next_qualities : (s : State) (x : Step) → Qualities s → Conditions s x → Qualities (next s x)
next_qualities s (drop_dominated t u) q c = keeping_qualities s _ q
next_qualities s (drop_multiple t u k) q c = keeping_qualities s _ q
next_qualities s (drop_composed t u v) q c = keeping_qualities s _ q
next_qualities s (drop_draining t) q c = keeping_qualities s _ q
next_qualities s (drop_starved t p) q c = keeping_qualities s _ q
next_qualities s (keep_sourceless t) q c = keeping_qualities s _ q
next_qualities s (remove_plentiful p) q c = leaving_qualities s p q c.1
next_qualities s (remove_implied p r k) q c = leaving_qualities s p q c.4
next_qualities s (drop_siphon z) q c = keeping_qualities s _ q
next_qualities s (limit_to z) q c = limiting_qualities s (member z) q c.2
next_qualities s (post_agglomerate p) q c =
    post_merging_qualities s p q c.1 c.2 c.5 c.6.rows ((in_limits_says (post_merging p s)).1 c.6.limits)
next_qualities s (pre_agglomerate p) q c =
    pre_merging_qualities s p q c.1 c.2 c.6 c.7.rows ((in_limits_says (pre_merging p s)).1 c.7.limits)
next_qualities s (free_agglomerate p) q c =
    pre_merging_qualities s p q c.2 c.3 c.6 c.7.rows ((in_limits_says (pre_merging p s)).1 c.7.limits)
next_qualities s (fire_ahead t k) q c = firing_ahead_qualities s t k c.0 q ((in_limits_says (firing_ahead t k s)).1 c.3)
next_qualities s (fuse_places p r a b) q c =
    fusing_qualities s p r q c.4 c.2 c.3 c.6 ((in_limits_says (fusing p r s)).1 c.9)

-- Support and question stay.
same_support : (s : State) (x : Step) → (next s x).support ≡ s.support
same_support s (drop_dominated t u) = refl
same_support s (drop_multiple t u k) = refl
same_support s (drop_composed t u v) = refl
same_support s (drop_draining t) = refl
same_support s (drop_starved t p) = refl
same_support s (keep_sourceless t) = refl
same_support s (remove_plentiful p) = refl
same_support s (remove_implied p r k) = refl
same_support s (drop_siphon z) = refl
same_support s (limit_to z) = refl
same_support s (post_agglomerate p) = refl
same_support s (pre_agglomerate p) = refl
same_support s (free_agglomerate p) = refl
same_support s (fire_ahead t k) = refl
same_support s (fuse_places p r a b) = refl

same_question : (s : State) (x : Step) → (next s x).question ≡ s.question
same_question s (drop_dominated t u) = refl
same_question s (drop_multiple t u k) = refl
same_question s (drop_composed t u v) = refl
same_question s (drop_draining t) = refl
same_question s (drop_starved t p) = refl
same_question s (keep_sourceless t) = refl
same_question s (remove_plentiful p) = refl
same_question s (remove_implied p r k) = refl
same_question s (drop_siphon z) = refl
same_question s (limit_to z) = refl
same_question s (post_agglomerate p) = refl
same_question s (pre_agglomerate p) = refl
same_question s (free_agglomerate p) = refl
same_question s (fire_ahead t k) = refl
same_question s (fuse_places p r a b) = refl

pub next_kept : (s : State) (x : Step) → Qualities s → Conditions s x → Kept s (next s x)
next_kept s x q c =
    let k = next_qualities s x q c in
    record {
      support = same_support s x;
      question = same_question s x;
      standing = λ p e. k.supported p (ap (λ (l : List Bool). lib.ListN.get_or l p false) (same_support s x) ∙ e);
      qualities = k;
      law = law (Supports s) s.question (net_of s) (net_of (next s x)) (finite s) (taken_by s x q c);
    }

pub steps_are_lawful : StepsAreLawful
steps_are_lawful s t x q h =
    let k = passed (table s x) (next s x) t h in
    subst (Kept s) k.1 (next_kept s x q (to_words s x q k.0))
