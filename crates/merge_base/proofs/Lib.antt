mod MeetLemmas
