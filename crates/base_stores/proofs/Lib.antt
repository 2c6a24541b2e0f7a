mod FileListLaws
