-- The demands about document 01's definitions. `Demands` has the theorems; a reader begins there.
--   Demands      every theorem under its name, with a sentence that says it: document 01's here, with an index of all of them, and
--                those of each job of document 02 in a file of `Demands/`
--   BothSides    laws of the words that stand on both sides of a theorem
--   Instance     the theorems speak of something: the case ONE, and one with a label, a type and a kind of that type
-- The proofs, over those of `laws` and each on those before it:
--   Between      from picks to steps and back, for an accepted case
--   Strips1      an action that removes something is taken once
--   Accepting    checking accepts what reaches the goal
--   Answered     what an answer of checking, reading or building tells of the case
--   Polynomial   the bound as a polynomial; its degree (the last step is in proofs/Polynomial)
--   States       beyond the last atom nothing holds
--   Wider        larger limits: accepted cases answer the same
--   Written      sheets of steps and picks, written and read back
--   InNumbers    a case rewritten with numbers for labels is the same case
--   LineTexts    sheets line by line, both ways: what lines say and what is read from them
--   SiteTexts    which texts are read as a site
--   QuestionTexts  which texts are read as a question
--   SameReplies  two sites that are read as one case have the same replies
--   Ranges       what a variable and a place of a kind range over, from the lines of the sheets
--   NoTypes      a question that uses no types: the problem does not depend on types and members
--   TypedKinds   kinds with types, in plain words; which tuples have a set action
--   NodeActions  which actions a quantifier has, and what those of a `forall` need
--   AnyOrder     picks are a set: their order does not count
--   AtomsStay    atom numbers do not move when types are added
--   OutsideTypes the atoms of a `forall` outside its range are never true
--   Buffers      what is left in lent buffers
--   Filed        what the desk program prints
--   Short        where the limits of texts and steps lie, and that the desk stays below them; how many picks it prints
--   Judging      judging answers as building does with room enough
--   Finds        the least picks that meet the rule; what finding answers and leaves
--   WantsMore    rules that only ever want more: all tuples picked are as good as any picks
--   Trying       many step lists of one case, each as if checked alone
--   OnePick      one pick more or less: how far the built steps move
--   Paper        steps on paper: nothing is cut or lost; what a page call replies and leaves
--   Columns      numbers on paper are read back from their columns
--   FullPage     a last page that is full
--   Every        the values of an `every` relation in plain words, and what a case without one keeps
--   Layering     layered plans: what a layer is, the fewest layers, lent ends, what the calls answer
-- of PDDL (document 02, job 11), each on those before it:
--   LiftedFacts  the fact of each atom; a part of a node, said with parameters and grounded
--   Ungrounded   steps that reach the goal are the plans of the unground domain
--   PlanLines    a plan's lines, written and read back, in whatever letters
--   PddlCalls    what the four calls write, read, refuse and leave
--   PddlReading  how PDDL reads words, brackets and lines
--   PddlTasks    what PDDL makes of a written domain, instance and plan
--   TextPlans    steps that reach the goal are those whose text is a plan of the two texts
--   ReadPlans    a text that is read as steps is, but for letters, what is written for them
--   NoPlans      a text with a line that is no step is no plan
--   PddlForms    every predicate that is used is declared, every object once
pub mod Demands
pub mod BothSides
pub mod Instance
pub mod Between
pub mod Strips1
pub mod Accepting
pub mod Answered
pub mod Polynomial
pub mod States
pub mod Wider
pub mod Written
pub mod InNumbers
pub mod LineTexts
pub mod SiteTexts
pub mod QuestionTexts
pub mod SameReplies
pub mod Ranges
pub mod NoTypes
pub mod TypedKinds
pub mod NodeActions
pub mod AnyOrder
pub mod AtomsStay
pub mod OutsideTypes
pub mod Buffers
pub mod Filed
pub mod Short
pub mod Judging
pub mod Finds
pub mod WantsMore
pub mod Trying
pub mod OnePick
pub mod Paper
pub mod Columns
pub mod FullPage
pub mod Every
pub mod Layering
pub mod LiftedFacts
pub mod Ungrounded
pub mod PlanLines
pub mod PddlCalls
pub mod PddlReading
pub mod PddlTasks
pub mod TextPlans
pub mod ReadPlans
pub mod NoPlans
pub mod PddlForms
