use Rattle.adr_law_headline.proofs.Texts.{every_text}
use Rattle.adr_run_replay.proofs.GivenLemmas.{texts_give_one}
use Rattle.adr_run_replay.proofs.laws.runs_are_so.Goals as goal

pub returns-clause-texts : goal.returns-clause-texts
returns-clause-texts c = texts_give_one

pub returns-clause-headline : goal.returns-clause-headline
returns-clause-headline c = every_text

pub returns-clause-generated : goal.returns-clause-generated
returns-clause-generated c = c.generated_runs_are_so.ensures

pub returns-clause-directories : goal.returns-clause-directories
returns-clause-directories c = c.equal_lines_mean_equal_directories.ensures.alone

pub returns-clause-entries : goal.returns-clause-entries
returns-clause-entries c = c.equal_lines_mean_equal_directories.ensures.below

pub returns-clause-followed : goal.returns-clause-followed
returns-clause-followed c = c.equal_lines_mean_equal_directories.ensures.followed

pub returns-clause-json : goal.returns-clause-json
returns-clause-json c = c.equal_json_means_equal_directories.ensures

pub returns-clause-exportable : goal.returns-clause-exportable
returns-clause-exportable c = c.directories_of_texts_are_exportable.ensures

pub returns-clause-equal : goal.returns-clause-equal
returns-clause-equal c = c.exercises_end_equal.ensures
